-- The opening price of each good of a file: below the ceiling, and 0 in version 1.
use Rattle.std.proofs.Common.{◌≡◌, ◌<◌, ◌≤◌, ℕ, ◌-◌, ◌==◌, ℤ, pos, negsuc, false, nat_le, ◌&&◌, nat_lt, List, [], ◌∷◌, length, map, take, replicate, Ok, Option, Some, None, codes, Ordering, Less, Equal, Greater, nat_cmp, refl, sym, ap, ◌∙◌, subst, inl, inr, arith}
use Rattle.std.specs.List.{list_any, AllByRecursion, position, position_or_len}
use Rattle.std.specs.Ordering.{is_eq, match_ordering}
use Rattle.std.specs.Str.{bytes_eq}
use Rattle.std.specs.Cmp.Lexicographic.{slice_cmp}
use Rattle.std.proofs.lemmas.Bool.{cases_Bool, false≢true}
use Rattle.std.proofs.lemmas.Bool.Decides.{nat_tests}
use Rattle.std.proofs.lemmas.Slice.Eq.{bytes_eq-Decides}
use Rattle.std.proofs.lemmas.Map.Text.{is_eq-slice_cmp}
use Rattle.toml.specs.Data.{Data, Members, no_members, member, get_member}
use Rattle.auction_file.specs.declared.faults.Key.TheVariants as key
use Rattle.auction_file.specs.declared.faults.AuctionFault.{AuctionFault}
use Rattle.auction_file.specs.declared.faults.AuctionFault.TheVariants as fault
use Rattle.auction_file.specs.declared.goods_list.Good.{Good}
use Rattle.auction_file.specs.Tree.{found, within, ranged}
use Rattle.auction_file.specs.AuctionFile.{name_after, each, good_number, good_keys, supply_at, opening_in, opening_at, good_at, goods_of}
use Rattle.auction_file.specs.Listing.{IsOpened}
use Rattle.lot_base.specs.Goods.{zeros}
use Rattle.toml_tree.specs.Readers.{integer_of, array_at, table_of, refused_key, known_keys}
use Rattle.toml_tree.specs.Tree.{least_unknown}
use Rattle.toml_tree.proofs.Passed.{bind_ok, some_from_ok_or, same_Ok, each-all}

-- ---- the opening of one good

within-least : (high n : ℕ) (z : ℤ) → within 0 high z ≡ Some n → n ≤ high
within-least high n (negsuc m) h = cc h
within-least high n (pos m) h =
    elim (cases_Bool (nat_le 0 m && nat_le m high)) [
      | inl inside ↦
          let e : within 0 high (pos m) ≡ Some m = rw inside in
          let same : m ≡ n = (let both : Some m ≡ Some n = sym e ∙ h in cc) in
          let under : m ≤ high = grind (arith, nat_tests) in
          omega arith
      | inr outside ↦
          let e : within 0 high (pos m) ≡ None = rw outside in
          cc (sym e ∙ h)
    ]

opening_in-below : (ceiling place n : ℕ) (value : Option Data) → 1 ≤ ceiling → opening_in ceiling place value ≡ Ok n → n < ceiling
opening_in-below ceiling place n None some h = let e : 0 ≡ n = same_Ok 0 n h in omega arith
opening_in-below ceiling place n (Some value) some h =
    let number = bind_ok (found (integer_of (key.Opening (good_number place)) value)) (ranged 0 (ceiling - 1) (fault.Opening (good_number place))) n h in
    let most : n ≤ ceiling - 1 = within-least (ceiling - 1) n number.0 (some_from_ok_or (within 0 (ceiling - 1) number.0) _ n number.2) in
    omega arith

-- ---- a key that the format does not know is not there

no_unknown : (unknown : Option (List ℕ)) (u : Unit {0}) → found (refused_key unknown) ≡ Ok u → unknown ≡ None
no_unknown None u h = refl
no_unknown (Some key) u h = cc h

at_other_key : (o : Ordering) (rest here : Option Data) → is_eq o ≡ false → match_ordering o rest here rest ≡ rest
at_other_key Less rest here e = refl
at_other_key Equal rest here e = absurd (false≢true (sym e))
at_other_key Greater rest here e = refl

get_member-unknown : (known : List (List ℕ)) (name : List ℕ) (table : Members) → list_any (bytes_eq name) known ≡ false → least_unknown known table ≡ None → get_member name table ≡ None
get_member-unknown known name no_members unknown none = refl
get_member-unknown known name (member key value rest) unknown none =
    elim (cases_Bool (list_any (bytes_eq key) known)) [
      | inl is_known ↦
          let later : get_member name rest ≡ None = get_member-unknown known name rest unknown (rw is_known at none) in
          elim (cases_Bool (bytes_eq name key)) [
            | inl one ↦
                let same : name ≡ key = (bytes_eq-Decides name key).0 one in
                let P : List ℕ → Type 0 = λ k. list_any (bytes_eq k) known ≡ false in
                absurd (false≢true (sym (subst P same unknown) ∙ is_known))
            | inr two ↦ at_other_key (slice_cmp nat_cmp name key) (get_member name rest) (Some value) (is_eq-slice_cmp name key ∙ two) ∙ later
          ]
      | inr other ↦ cc (rw other at none)
    ]

opening_at-first : (ceiling place n : ℕ) (table : Members) (u : Unit {0}) → found (known_keys (good_keys 1) table) ≡ Ok u → opening_in ceiling place (get_member (codes "opening") table) ≡ Ok n → n ≡ 0
opening_at-first ceiling place n table u known h =
    let absent : get_member (codes "opening") table ≡ None = get_member-unknown (good_keys 1) (codes "opening") table refl (no_unknown (least_unknown (good_keys 1) table) u known) in
    sym (same_Ok {F = AuctionFault} 0 n (rw absent at h))

good_at-opened : (version ceiling : ℕ) → 1 ≤ ceiling → (earlier : List Data) (place : ℕ) (element : Data) (good : Good) → good_at version ceiling earlier place element ≡ Ok good → IsOpened version ceiling good
unfolding good_at opening_at
good_at-opened version ceiling some earlier place element good h =
    let t = bind_ok (found (table_of (key.GoodTable (good_number place)) element)) _ good h in
    let keys = bind_ok (found (known_keys (good_keys version) t.0)) _ good t.2 in
    let name = bind_ok (name_after (key.GoodName (good_number place)) earlier t.0) _ good keys.2 in
    let supply = bind_ok (supply_at place t.0) _ good name.2 in
    let opening = bind_ok (opening_in ceiling place (get_member (codes "opening") t.0)) _ good supply.2 in
    let same : opening.0 ≡ good.opening = ap (λ (g : Good). g.opening) (same_Ok (record { name = name.0; supply = supply.0; opening = opening.0 }) good opening.2) in
    record {
      below = let lower : opening.0 < ceiling = opening_in-below ceiling place opening.0 (get_member (codes "opening") t.0) some opening.1 in omega (arith, same);
      zero = λ first.
          let P : ℕ → Type 0 = λ v. found (known_keys (good_keys v) t.0) ≡ Ok keys.0 in
          sym same ∙ opening_at-first ceiling place opening.0 t.0 keys.0 (subst P first keys.1) opening.1;
    }

pub good_keys-first : (version : ℕ) → (version ≡ 2 → ⊥) → good_keys version ≡ codes "name" ∷ codes "supply" ∷ []
good_keys-first version other = let test : (version == 2) ≡ false = grind (arith, nat_tests) in rw test

-- ---- the openings of all goods

pub goods_of-opened : (version ceiling : ℕ) (file : Members) (goods : List Good) → 1 ≤ ceiling → goods_of version ceiling file ≡ Ok goods → AllByRecursion (IsOpened version ceiling) goods
unfolding goods_of
goods_of-opened version ceiling file goods some h =
    let elements = bind_ok (found (array_at key.Goods (codes "goods") file)) (each (good_at version ceiling)) goods h in
    each-all (λ place. good_at version ceiling (take place elements.0) place) (IsOpened version ceiling) (λ place. good_at-opened version ceiling some (take place elements.0) place) 0 elements.0 goods elements.2

-- all of these open at 0
pub opening-zeros : (version ceiling : ℕ) (goods : List Good) (supply : List ℕ) → version ≡ 1 → AllByRecursion (IsOpened version ceiling) goods → length supply ≡ length goods → zeros supply ≡ map (λ good. good.opening) goods
opening-zeros version ceiling goods supply first opened count = ap (λ n. replicate n 0) count ∙ by goods opened
  where
    by : (gs : List Good) → AllByRecursion (IsOpened version ceiling) gs → replicate (length gs) 0 ≡ map (λ good. good.opening) gs
    by [] h = refl
    by (g ∷ gs) h = rw (h.0.zero first, by gs h.1)

-- none of these opens at the ceiling or above
pub position-opened : (version ceiling : ℕ) (goods : List Good) → AllByRecursion (IsOpened version ceiling) goods → position (λ price. nat_le ceiling price) (map (λ good. good.opening) goods) ≡ None
position-opened version ceiling goods opened = rw (by goods opened, not_less (length (map (λ good. good.opening) goods)))
  where
    not_less : (n : ℕ) → nat_lt n n ≡ false
    not_less n = grind (arith, nat_tests)

    by : (gs : List Good) → AllByRecursion (IsOpened version ceiling) gs → position_or_len (λ price. nat_le ceiling price) (map (λ good. good.opening) gs) ≡ length (map (λ good. good.opening) gs)
    by [] h = refl
    by (g ∷ gs) h =
        let lower : g.opening < ceiling = h.0.below in
        let test : nat_le ceiling g.opening ≡ false = grind (arith, nat_tests) in
        rw (test, by gs h.1) (omega arith)
