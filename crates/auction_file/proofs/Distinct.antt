-- No two goods, and no two bidders, of a file that is read have one name.
use Rattle.std.proofs.Common.{◌≡◌, ◌≢◌, ℕ, ◌+◌, Bool, true, false, not, nat_le, ◌&&◌, List, [], ◌∷◌, ◌++◌, length, map, take, Ok, Err, Result, Some, None, codes, refl, sym, ap, ◌∙◌, subst, append_assoc, length-append, inl, inr}
use Rattle.std.specs.List.{list_any, AllByRecursion}
use Rattle.std.specs.Option.{ok_or}
use Rattle.std.specs.Str.{bytes_eq}
use Rattle.std.proofs.lemmas.Bool.{cases_Bool, false≢true}
use Rattle.std.proofs.lemmas.Slice.Eq.{bytes_eq-Decides}
use Rattle.std.proofs.Math.Seq.{take-append_seam}
use Rattle.toml.specs.Data.{Data, Members, string, integer, float, boolean, datetime, array, table, get_member, as_str, as_table}
use Rattle.auction_file.specs.declared.faults.Key.{Key}
use Rattle.auction_file.specs.declared.faults.Key.TheVariants as key
use Rattle.auction_file.specs.declared.faults.AuctionFault.{AuctionFault}
use Rattle.auction_file.specs.declared.faults.AuctionFault.TheVariants.{Bidders}
use Rattle.auction_file.specs.declared.goods_list.Good.{Good}
use Rattle.auction_file.specs.declared.bidders_list.Bidder.{Bidder}
use Rattle.auction_file.specs.Names.{is_name, name_of, AreDistinct}
use Rattle.auction_file.specs.Tree.{found}
use Rattle.auction_file.specs.AuctionFile.{has_name, name_after, each, good_number, good_keys, supply_at, opening_at, digest_at, good_at, bidder_at, goods_of, bidders_of, sold, document_of, version_of, ceiling_of, auction_of, Listing}
use Rattle.lot_base.specs.Limits.{supply_of}
use Rattle.toml_tree.specs.Readers.{value_at, string_at, array_at, table_of, known_keys}
use Rattle.toml_tree.specs.Steps.{◌>>=◌, check, each_from}
use Rattle.toml_tree.proofs.Passed.{bind_ok, some_from_ok_or, same_Ok, ok_from_said}
use Rattle.auction_file.proofs.Turns.{Reader}

-- ---- the parts of an element

check_passed : (b : Bool) (refusal : AuctionFault) (u : Unit {0}) → check (not b) refusal ≡ Ok u → b ≡ false
check_passed true refusal u h = cc h
check_passed false refusal u h = refl

table_from_as_table : (d : Data) (t : Members) → as_table d ≡ Some t → d ≡ table t
table_from_as_table (table s) t h = cc h
table_from_as_table (string s) t h = cc h
table_from_as_table (integer z) t h = cc h
table_from_as_table (float x) t h = cc h
table_from_as_table (boolean b) t h = cc h
table_from_as_table (datetime w) t h = cc h
table_from_as_table (array ds) t h = cc h

string_from_as_str : (d : Data) (text : List ℕ) → as_str d ≡ Some text → d ≡ string text
string_from_as_str (string s) text h = cc h
string_from_as_str (integer z) text h = cc h
string_from_as_str (float x) text h = cc h
string_from_as_str (boolean b) text h = cc h
string_from_as_str (datetime w) text h = cc h
string_from_as_str (array ds) text h = cc h
string_from_as_str (table ms) text h = cc h

same_Some : (a b : List ℕ) → Some a ≡ Some b → a ≡ b
same_Some a b e = cc e

name_of-same : (text name : List ℕ) → name_of text ≡ Some name → text ≡ name
name_of-same text name h =
    elim (cases_Bool (is_name text)) [
      | inl good ↦
          let e : name_of text ≡ Some text = rw good in
          same_Some text name (sym e ∙ h)
      | inr bad ↦
          let e : name_of text ≡ None = rw bad in
          cc (sym e ∙ h)
    ]

-- ---- the name of one element

-- the element has the name, and none before it has
pub record IsNamed (earlier : List Data) (element : Data) (name : List ℕ) : Type 0 where
  pub here : has_name name element ≡ true
  pub fresh : list_any (has_name name) earlier ≡ false

named-same : (earlier : List Data) (d e : Data) (text name : List ℕ) → d ≡ e → text ≡ name → IsNamed earlier e text → IsNamed earlier d name
named-same earlier d e text name is same h =
    let P : List ℕ → Type 0 = λ n. IsNamed earlier e n in
    let Q : Data → Type 0 = λ x. IsNamed earlier x name in
    subst Q (sym is) (subst P same h)

has_name-found : (t : Members) (value : Data) (text : List ℕ) → get_member (codes "name") t ≡ Some value → value ≡ string text → has_name text (table t) ≡ true
has_name-found t value text found is =
    let itself : bytes_eq text text ≡ true = (bytes_eq-Decides text text).1 refl in
    rw (found, is) itself

name_after-named : (key : Key) (earlier : List Data) (t : Members) (name : List ℕ) → name_after key earlier t ≡ Ok name → IsNamed earlier (table t) name
unfolding name_after
name_after-named key earlier t name h =
    let text = bind_ok (found (string_at key (codes "name") t)) _ name h in
    let named = bind_ok (ok_or (name_of text.0) _) _ name text.2 in
    let untaken = bind_ok (check (not (list_any (has_name text.0) earlier)) _) _ name named.2 in
    let same : text.0 ≡ name = name_of-same text.0 named.0 (some_from_ok_or (name_of text.0) _ named.0 named.1) ∙ same_Ok named.0 name untaken.2 in
    let value = bind_ok (value_at key (codes "name") t) _ text.0 (ok_from_said _ (string_at key (codes "name") t) text.0 text.1) in
    let there : get_member (codes "name") t ≡ Some value.0 = some_from_ok_or (get_member (codes "name") t) _ value.0 value.1 in
    let is : value.0 ≡ string text.0 = string_from_as_str value.0 text.0 (some_from_ok_or (as_str value.0) _ text.0 value.2) in
    named-same earlier (table t) (table t) text.0 name refl same (record {
      here = has_name-found t value.0 text.0 there is;
      fresh = check_passed (list_any (has_name text.0) earlier) _ untaken.0 untaken.1;
    })

good_at-named : (version ceiling : ℕ) (earlier : List Data) (place : ℕ) (element : Data) (good : Good) → good_at version ceiling earlier place element ≡ Ok good → IsNamed earlier element good.name
unfolding good_at
good_at-named version ceiling earlier place element good h =
    let t = bind_ok (found (table_of (key.GoodTable (good_number place)) element)) _ good h in
    let keys = bind_ok (found (known_keys (good_keys version) t.0)) _ good t.2 in
    let name = bind_ok (name_after (key.GoodName (good_number place)) earlier t.0) _ good keys.2 in
    let supply = bind_ok (supply_at place t.0) _ good name.2 in
    let opening = bind_ok (opening_at ceiling place t.0) _ good supply.2 in
    let is : element ≡ table t.0 = table_from_as_table element t.0 (some_from_ok_or (as_table element) _ t.0 (ok_from_said _ (table_of _ element) t.0 t.1)) in
    let same : name.0 ≡ good.name = ap (λ (g : Good). g.name) (same_Ok (record { name = name.0; supply = supply.0; opening = opening.0 }) good opening.2) in
    named-same earlier element (table t.0) name.0 good.name is same (name_after-named (key.GoodName (good_number place)) earlier t.0 name.0 name.1)

bidder_at-named : (earlier : List Data) (place : ℕ) (element : Data) (bidder : Bidder) → bidder_at earlier place element ≡ Ok bidder → IsNamed earlier element bidder.name
unfolding bidder_at
bidder_at-named earlier place element bidder h =
    let t = bind_ok (found (table_of (key.BidderTable (place + 1)) element)) _ bidder h in
    let keys = bind_ok (found (known_keys (codes "name" ∷ codes "token" ∷ []) t.0)) _ bidder t.2 in
    let name = bind_ok (name_after (key.BidderName (place + 1)) earlier t.0) _ bidder keys.2 in
    let digest = bind_ok (digest_at (place + 1) t.0) _ bidder name.2 in
    let is : element ≡ table t.0 = table_from_as_table element t.0 (some_from_ok_or (as_table element) _ t.0 (ok_from_said _ (table_of _ element) t.0 t.1)) in
    let same : name.0 ≡ bidder.name = ap (λ (b : Bidder). b.name) (same_Ok (record { name = name.0; digest = digest.0 }) bidder digest.2) in
    named-same earlier element (table t.0) name.0 bidder.name is same (name_after-named (key.BidderName (place + 1)) earlier t.0 name.0 name.1)

-- ---- the names of all elements

list_any-last : (p : Data → Bool) (ds : List Data) (d : Data) → list_any p (ds ++ d ∷ []) ≡ false → (list_any p ds ≡ false) × (p d ≡ false)
list_any-last p [] d h =
    elim (cases_Bool (p d)) [
      | inl yes_it_does ↦ absurd (false≢true (sym h ∙ rw yes_it_does))
      | inr other ↦ (refl, other)
    ]
list_any-last p (x ∷ ds) d h =
    elim (cases_Bool (p x)) [
      | inl yes_it_does ↦ absurd (false≢true (sym h ∙ rw yes_it_does))
      | inr other ↦
          let rest : list_any p (ds ++ d ∷ []) ≡ false = rw other at h in
          let parts = list_any-last p ds d rest in
          (rw (other, parts.0), parts.1)
    ]

module _ {A : Type 0} (f : Reader A) (name : A → List ℕ)
    (named : (earlier : List Data) (place : ℕ) (element : Data) (x : A) → f earlier place element ≡ Ok x → IsNamed earlier element (name x)) where
  -- none of these elements has a name of those before
  abbrev AreFresh : List Data → List A → Type 0
  AreFresh earlier xs = AllByRecursion (λ x. list_any (has_name (name x)) earlier ≡ false) xs

  fresh_before : (earlier : List Data) (d : Data) (xs : List A) → AreFresh (earlier ++ d ∷ []) xs → AreFresh earlier xs
  fresh_before earlier d [] h = tt
  fresh_before earlier d (x ∷ xs) h = ((list_any-last (has_name (name x)) earlier d h.0).0, fresh_before earlier d xs h.1)

  -- a name that an element has is none of theirs
  others : (earlier : List Data) (d : Data) (own : List ℕ) (xs : List A) → has_name own d ≡ true → AreFresh (earlier ++ d ∷ []) xs → AllByRecursion (λ other. other ≢ own) (map name xs)
  others earlier d own [] has h = tt
  others earlier d own (x ∷ xs) has h =
      let without : has_name (name x) d ≡ false = (list_any-last (has_name (name x)) earlier d h.0).1 in (
        λ same.
            let P : List ℕ → Type 0 = λ n. has_name n d ≡ false in
            let both : has_name own d ≡ false = subst P same without in
            false≢true (sym both ∙ has),
        others earlier d own xs has h.1,
      )

  rest_distinct : (earlier rest : List Data) (xs : List A) → each_from (λ place. f (take place (earlier ++ rest)) place) (length earlier) rest ≡ Ok xs
      → AreFresh earlier xs × AreDistinct (map name xs)
  rest_distinct earlier [] xs h =
      let P : List A → Type 0 = λ ys. AreFresh earlier ys × AreDistinct (map name ys) in
      subst P (same_Ok [] xs h) (tt, tt)
  rest_distinct earlier (d ∷ rest) xs h =
      let first = bind_ok (f (take (length earlier) (earlier ++ d ∷ rest)) (length earlier) d) _ xs h in
      let later = bind_ok (each_from (λ place. f (take place (earlier ++ d ∷ rest)) place) (length earlier + 1) rest) _ xs first.2 in
      let front : take (length earlier) (earlier ++ d ∷ rest) ≡ earlier = take-append_seam earlier (d ∷ rest) in
      let here : IsNamed earlier d (name first.0) = named earlier (length earlier) d first.0 (ap (λ es. f es (length earlier) d) (sym front) ∙ first.1) in
      let regrouped : (earlier ++ d ∷ []) ++ rest ≡ earlier ++ d ∷ rest = append_assoc earlier (d ∷ []) rest in
      let longer : length (earlier ++ d ∷ []) ≡ length earlier + 1 = length-append earlier (d ∷ []) in
      let same : each_from (λ place. f (take place ((earlier ++ d ∷ []) ++ rest)) place) (length (earlier ++ d ∷ [])) rest ≡ Ok later.0 =
      ap (λ es. each_from (λ place. f (take place es) place) (length (earlier ++ d ∷ [])) rest) regrouped
      ∙ ap (λ n. each_from (λ place. f (take place (earlier ++ d ∷ rest)) place) n rest) longer ∙ later.1 in
      let below = rest_distinct (earlier ++ d ∷ []) rest later.0 same in
      let P : List A → Type 0 = λ ys. AreFresh earlier ys × AreDistinct (map name ys) in
      subst P (same_Ok (first.0 ∷ later.0) xs later.2)
      ((here.fresh, fresh_before earlier d later.0 below.0), (others earlier d (name first.0) later.0 here.here below.0, below.1))

  each-distinct : (elements : List Data) (xs : List A) → each f elements ≡ Ok xs → AreDistinct (map name xs)
  each-distinct elements xs h = (rest_distinct [] elements xs h).1

-- ---- the names of a file

goods_of-distinct : (version ceiling : ℕ) (file : Members) (goods : List Good) → goods_of version ceiling file ≡ Ok goods → AreDistinct (map (λ good. good.name) goods)
unfolding goods_of
goods_of-distinct version ceiling file goods h =
    let elements = bind_ok (found (array_at key.Goods (codes "goods") file)) (each (good_at version ceiling)) goods h in
    each-distinct (good_at version ceiling) (λ good. good.name) (good_at-named version ceiling) elements.0 goods elements.2

-- what follows the array of the bidders
abbrev counted_bidders : List Data → Result (List Bidder) AuctionFault
counted_bidders elements = check (nat_le 1 (length elements) && nat_le (length elements) 12) (Bidders (length elements)) >>= (λ _. each bidder_at elements)

bidders_of-distinct : (file : Members) (bidders : List Bidder) → bidders_of file ≡ Ok bidders → AreDistinct (map (λ bidder. bidder.name) bidders)
unfolding bidders_of
bidders_of-distinct file bidders h =
    let elements = bind_ok (found (array_at key.Bidders (codes "bidders") file)) counted_bidders bidders h in
    let counted = bind_ok (check (nat_le 1 (length elements.0) && nat_le (length elements.0) 12) (Bidders (length elements.0))) (λ _. each bidder_at elements.0) bidders elements.2 in
    each-distinct bidder_at (λ bidder. bidder.name) bidder_at-named elements.0 bidders counted.2

-- the names that an answer has
abbrev names_of_goods : Result Listing AuctionFault → List (List ℕ)
names_of_goods (Ok listing) = listing.good_names
names_of_goods (Err refusal) = []

abbrev names_of_bidders : Result Listing AuctionFault → List (List ℕ)
names_of_bidders (Ok listing) = listing.bidder_names
names_of_bidders (Err refusal) = []

pub auction_of-distinct : (bytes : List ℕ) (listing : Listing) → auction_of bytes ≡ Ok listing → AreDistinct listing.good_names × AreDistinct listing.bidder_names
unfolding auction_of
auction_of-distinct bytes listing h =
    let file = bind_ok (document_of bytes) _ listing h in
    let keys = bind_ok (found (known_keys (codes "version" ∷ codes "ceiling" ∷ codes "goods" ∷ codes "bidders" ∷ []) file.0)) _ listing file.2 in
    let version = bind_ok (version_of file.0) _ listing keys.2 in
    let ceiling = bind_ok (ceiling_of file.0) _ listing version.2 in
    let goods = bind_ok (goods_of version.0 ceiling.0 file.0) _ listing ceiling.2 in
    let supply = bind_ok (sold (supply_of (map (λ good. good.supply) goods.0))) _ listing goods.2 in
    let bidders = bind_ok (bidders_of file.0) _ listing supply.2 in
    let good_names : map (λ good. good.name) goods.0 ≡ listing.good_names = ap names_of_goods bidders.2 in
    let bidder_names : map (λ bidder. bidder.name) bidders.0 ≡ listing.bidder_names = ap names_of_bidders bidders.2 in
    (subst AreDistinct good_names (goods_of-distinct version.0 ceiling.0 file.0 goods.0 goods.1), subst AreDistinct bidder_names (bidders_of-distinct file.0 bidders.0 bidders.1))
