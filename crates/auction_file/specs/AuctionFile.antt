-- What an auction file says, or the first fault of it. The file is a TOML table with these keys, looked at in this order:
--
--     version    1 or 2
--     ceiling    2 to 10,000
--     goods      an array of tables, each with a name, a supply of 0 to 65,535, and in version 2, where it is named, an opening
--                of 0 to the ceiling less 1
--     bidders    an array of 1 to 12 tables, each with a name, and the SHA-256 of its token as 64 hexadecimal digits
--
-- Sources: TOML 1.1 (https://toml.io/en/v1.1.0) as `toml` reads it, SHA-256 of FIPS 180-4 as `sha2` computes it,
-- hexadecimal digits of either case as `hex` reads them.
-- Odd cases: bytes that are not UTF-8 are no TOML. An array of inline tables is the same tree as an array of tables. An empty
-- `goods` has the fault of no goods, and an empty `bidders` that of 0 bidders. A name is taken where an earlier element of its
-- array has it. A good without an opening opens at 0, and in version 1 an opening is an unknown key. Goods are counted from 0
-- and bidders from 1; a number that its type cannot hold stands at the type's end, 4,294,967,295 in a key and in the fault of an
-- opening, and 255 in the fault of a supply.
use Rattle.std.specs.Prelude.{ℕ, ◌+◌, ◌-◌, ◌^◌, nat_le, min, codes, Bool, ◌&&◌, ◌==◌, if◌then◌else◌, not, false, List, [], ◌∷◌, length, map, take, Option, Some, None, Result, Ok, Err, option_and_then}
use Rattle.std.specs.List.{list_any}
use Rattle.std.specs.Option.{ok_or, option_map_or}
use Rattle.std.specs.Result.{result_ok}
use Rattle.std.specs.Str.{bytes_eq}
use Rattle.lot_base.specs.declared.limits.TheConstants.{LEAST_CEILING, GREATEST_CEILING}
use Rattle.lot_base.specs.Limits.{supply_of}
use Rattle.lot_base.specs.declared.supply.GoodsFault.{GoodsFault}
use Rattle.toml.specs.Data.{Data, Members, get, get_member, as_str}
use Rattle.toml_tree.specs.Readers.{integer_of, integer_at, string_at, array_at, table_of, known_keys}
use Rattle.toml_tree.specs.Steps.{◌>>=◌, check, each_from}
use Rattle.toml_tree.specs.Tree.{tree_of}
use Rattle.sha2.specs.Sha256.{sha256}
use Rattle.hex.specs.Hex.{decode_sized}
use Rattle.auction_file.specs.declared.faults.Key.{Key}
use Rattle.auction_file.specs.declared.faults.Key.TheVariants as key
use Rattle.auction_file.specs.declared.faults.AuctionFault.{AuctionFault}
use Rattle.auction_file.specs.declared.faults.AuctionFault.TheVariants as fault
use Rattle.auction_file.specs.declared.goods_list.Good.{Good}
use Rattle.auction_file.specs.declared.bidders_list.Bidder.{Bidder}
use Rattle.auction_file.specs.Names.{name_of}
use Rattle.auction_file.specs.Tree.{found, ranged}

-- what a seller offers, to whom, and from which price up to which
pub record Listing : Type 0 where
  pub version : ℕ
  pub supply : List ℕ
  pub ceiling : ℕ
  pub opening : List ℕ
  pub good_names : List (List ℕ)
  pub bidder_names : List (List ℕ)
  pub token_digests : List (List ℕ)
  pub digest : List ℕ

-- the tree of the document
unfoldable pub document_of : List ℕ → Result Members AuctionFault
document_of bytes = ok_or (tree_of bytes) fault.NotToml

unfoldable pub version_of : Members → Result ℕ AuctionFault
version_of file = found (integer_at key.Version (codes "version") file) >>= ranged 1 2 fault.Version

unfoldable pub ceiling_of : Members → Result ℕ AuctionFault
ceiling_of file = found (integer_at key.Ceiling (codes "ceiling") file) >>= ranged LEAST_CEILING GREATEST_CEILING fault.Ceiling

-- the element is a table with this name
abbrev pub has_name : List ℕ → Data → Bool
has_name name element = option_map_or (bytes_eq name) (option_and_then as_str (get (codes "name") element)) false

-- the name of an element that stands after these
unfoldable pub name_after : Key → List Data → Members → Result (List ℕ) AuctionFault
name_after key earlier table = do
  text ← found (string_at key (codes "name") table)
  name ← ok_or (name_of text) (fault.BadName key)
  _ ← check (not (list_any (has_name text) earlier)) (fault.Repeated key)
  Ok name

-- what f gives for each element, its place and those before it, or the first fault of these
abbrev pub each : {A : Type 0} → (List Data → ℕ → Data → Result A AuctionFault) → List Data → Result (List A) AuctionFault
each f elements = each_from (λ place. f (take place elements) place) 0 elements

-- a good's number in a key and in the fault of its opening, and in the fault of its supply
abbrev pub good_number : ℕ → ℕ
good_number place = min place (2 ^ 32 - 1)

-- the same in one byte
abbrev pub short_number : ℕ → ℕ
short_number place = min place 255

unfoldable pub supply_at : ℕ → Members → Result ℕ AuctionFault
supply_at place table =
    found (integer_at (key.Supply (good_number place)) (codes "supply") table) >>= ranged 0 65535 (fault.BadSupply (short_number place))

-- the keys of a good
abbrev pub good_keys : ℕ → List (List ℕ)
good_keys version = if version == 2 then codes "name" ∷ codes "supply" ∷ codes "opening" ∷ [] else codes "name" ∷ codes "supply" ∷ []

-- the price at which a good opens: what its key holds, and 0 where the key is absent
abbrev pub opening_in : (ceiling place : ℕ) → Option Data → Result ℕ AuctionFault
opening_in ceiling place None = Ok 0
opening_in ceiling place (Some value) =
    found (integer_of (key.Opening (good_number place)) value) >>= ranged 0 (ceiling - 1) (fault.Opening (good_number place))

unfoldable pub opening_at : (ceiling place : ℕ) → Members → Result ℕ AuctionFault
opening_at ceiling place table = opening_in ceiling place (get_member (codes "opening") table)

unfoldable pub good_at : (version ceiling : ℕ) → List Data → ℕ → Data → Result Good AuctionFault
good_at version ceiling earlier place element = do
  table ← found (table_of (key.GoodTable (good_number place)) element)
  _ ← found (known_keys (good_keys version) table)
  name ← name_after (key.GoodName (good_number place)) earlier table
  supply ← supply_at place table
  opening ← opening_at ceiling place table
  Ok (record { name = name; supply = supply; opening = opening })

unfoldable pub goods_of : (version ceiling : ℕ) → Members → Result (List Good) AuctionFault
goods_of version ceiling file = found (array_at key.Goods (codes "goods") file) >>= each (good_at version ceiling)

-- the supplies, if they can be sold
abbrev pub sold : Result (List ℕ) GoodsFault → Result (List ℕ) AuctionFault
sold (Ok supply) = Ok supply
sold (Err refusal) = Err (fault.Goods refusal)

unfoldable pub digest_at : ℕ → Members → Result (List ℕ) AuctionFault
digest_at bidder table = do
  text ← found (string_at (key.Token bidder) (codes "token") table)
  ok_or (result_ok (decode_sized text 32)) (fault.BadDigest bidder)

unfoldable pub bidder_at : List Data → ℕ → Data → Result Bidder AuctionFault
bidder_at earlier place element = do
  table ← found (table_of (key.BidderTable (place + 1)) element)
  _ ← found (known_keys (codes "name" ∷ codes "token" ∷ []) table)
  name ← name_after (key.BidderName (place + 1)) earlier table
  digest ← digest_at (place + 1) table
  Ok (record { name = name; digest = digest })

unfoldable pub bidders_of : Members → Result (List Bidder) AuctionFault
bidders_of file = do
  bidders ← found (array_at key.Bidders (codes "bidders") file)
  _ ← check (nat_le 1 (length bidders) && nat_le (length bidders) 12) (fault.Bidders (length bidders))
  each bidder_at bidders

-- what the bytes say, or their first fault
unfoldable pub auction_of : List ℕ → Result Listing AuctionFault
auction_of bytes = do
  file ← document_of bytes
  _ ← found (known_keys (codes "version" ∷ codes "ceiling" ∷ codes "goods" ∷ codes "bidders" ∷ []) file)
  version ← version_of file
  ceiling ← ceiling_of file
  goods ← goods_of version ceiling file
  supply ← sold (supply_of (map (λ good. good.supply) goods))
  bidders ← bidders_of file
  Ok (record {
    version = version;
    supply = supply;
    ceiling = ceiling;
    opening = map (λ good. good.opening) goods;
    good_names = map (λ good. good.name) goods;
    bidder_names = map (λ bidder. bidder.name) bidders;
    token_digests = map (λ bidder. bidder.digest) bidders;
    digest = sha256 bytes;
  })
