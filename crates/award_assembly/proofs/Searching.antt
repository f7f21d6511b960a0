-- A table of the totals from which a demand and those after can clear, bundle by bundle of the demand.
use Rattle.std.proofs.Common.{◌≡◌, ◌≤◌, ◌<◌, ◌⊎◌, inl, inr, ℕ, zero, suc, ◌+◌, Bool, true, false, ◌&&◌, ◌||◌, nat_eq, cond, List, [], ◌∷◌, sum, length, take, drop, replicate, Some, None, is_some, refl, sym, ◌∙◌, ap, arith, slice_index, slice_index_or}
use Rattle.std.specs.Prelude.{find, slice_get}
use Rattle.std.specs.List.{AllByRecursion}
use Rattle.std.proofs.lemmas.List.{get_or-drop, get_or-replicate, length-drop, length-replicate, take_all}
use Rattle.std.proofs.lemmas.Bool.{cases_lt}
use Rattle.lot_base.specs.Goods.{plus, is_within, box_size, AtMost}
use Rattle.lot_base.specs.Box.{index_of, bundle_at}
use Rattle.lot_base.proofs.Within.{within-at_most}
use Rattle.lot_base.proofs.Index.{index_of-small, index_of-bundle_at, bundle_at-index_of, length-bundle_at}
use Rattle.lot_base.proofs.Vec.{length-below}
use Rattle.award_assembly.specs.Remaining.{IsReach, IsWith, AreAllTrue, has_total}
use Rattle.award_assembly.specs.Units.{AreUnits, AreKeys, IsJoined, key_of}
use Rattle.award_assembly.proofs.Adding.{index_of-plus}
use Rattle.award_assembly.proofs.Carrying.{units-test, test-other}
use Rattle.award_assembly.proofs.Reaching.{can-more}

-- the search through a front of a list
found-more : {X : Type 0} (test : X → Bool) (xs : List X) (n : ℕ) (x : X) → slice_get xs n ≡ Some x → is_some (find test (take (n + 1) xs)) ≡ (is_some (find test (take n xs)) || test x)
found-more test [] n x at = absurd (let f : None ≡ Some x = at in cc)
found-more test (y ∷ xs) zero x at = (let s : y ≡ x = cc in by (test y) refl s)
  where
    by : (b : Bool) → test y ≡ b → y ≡ x → is_some (cond b (Some y) None) ≡ test x
    by true e s = sym (ap test (sym s) ∙ e)
    by false e s = sym (ap test (sym s) ∙ e)
found-more {X} test (y ∷ xs) (suc n) x at = (let e : suc n + 1 ≡ suc (n + 1) = omega arith in ap (λ (m : ℕ). is_some (find test (take m (y ∷ xs)))) e) ∙ by (test y) (found-more test xs n x at)
  where
    by : (b : Bool) → is_some (find test (take (n + 1) xs)) ≡ (is_some (find test (take n xs)) || test x) → is_some (cond b (Some y) (find test (take (n + 1) xs))) ≡ (is_some (cond b (Some y) (find test (take n xs))) || test x)
    by true later = refl
    by false later = later

found-still : {X : Type 0} (test : X → Bool) (xs : List X) (n : ℕ) → is_some (find test (take n xs)) ≡ true → is_some (find test (take (n + 1) xs)) ≡ true
found-still test [] zero e = absurd (let f : false ≡ true = e in cc)
found-still test [] (suc n) e = absurd (let f : false ≡ true = e in cc)
found-still test (y ∷ xs) zero e = absurd (let f : false ≡ true = e in cc)
found-still {X} test (y ∷ xs) (suc n) e = (let e : suc n + 1 ≡ suc (n + 1) = omega arith in ap (λ (m : ℕ). is_some (find test (take m (y ∷ xs)))) e) ∙ by (test y) e (found-still test xs n)
  where
    by : (b : Bool) → is_some (cond b (Some y) (find test (take n xs))) ≡ true → (is_some (find test (take n xs)) ≡ true → is_some (find test (take (n + 1) xs)) ≡ true) → is_some (cond b (Some y) (find test (take (n + 1) xs))) ≡ true
    by true e later = refl
    by false e later = later e

-- at the place of each total, whether one of the first bundles of the demand makes it a true one
pub record IsSearched (s : List ℕ) (table : List Bool) (demand : List (List ℕ)) (n : ℕ) (totals : List Bool) : Type 0 where
  pub size : length totals ≡ box_size s
  pub each : (place : ℕ) → place < box_size s → slice_index_or totals place false ≡ is_some (find (λ x. has_total s table (plus (bundle_at s place) x)) (take n demand))

pub searched-none : (s : List ℕ) (table : List Bool) (demand : List (List ℕ)) → IsSearched s table demand 0 (replicate (box_size s) false)
searched-none s table demand = record { size = length-replicate (box_size s) false; each = λ place below. get_or-replicate (box_size s) place false false below ∙ none demand place }
  where
    none : (d : List (List ℕ)) (place : ℕ) → false ≡ is_some (find (λ x. has_total s table (plus (bundle_at s place) x)) (take 0 d))
    none [] place = refl
    none (x ∷ d) place = refl

pub searched-more : (s : List ℕ) (table : List Bool) (demand : List (List ℕ)) (n : ℕ) (x : List ℕ) (before after : List Bool) → slice_get demand n ≡ Some x → IsSearched s table demand n before → IsWith s table x before after
    → IsSearched s table demand (n + 1) after
searched-more s table demand n x before after at h w =
    record {
      size = w.size ∙ h.size;
      each = λ place below.
          w.each place below
          ∙ ap (λ b. b || has_total s table (plus (bundle_at s place) x)) (h.each place below)
          ∙ sym (found-more (λ y. has_total s table (plus (bundle_at s place) y)) demand n x at);
    }

pub searched-still : (s : List ℕ) (table : List Bool) (demand : List (List ℕ)) (n : ℕ) (totals : List Bool) → IsSearched s table demand n totals → AreAllTrue totals → IsSearched s table demand (n + 1) totals
searched-still s table demand n totals h all =
    record {
      size = h.size;
      each = λ place below.
          let z = h.size in
          let t = all place (omega arith) in
          t ∙ sym (found-still (λ y. has_total s table (plus (bundle_at s place) y)) demand n (sym (h.each place below) ∙ t));
    }

pub searched-all : (s o p : List ℕ) (table : List Bool) (d : List (List ℕ)) (behind : List (List (List ℕ))) (n : ℕ) (totals : List Bool) → IsReach s o p behind table → AllByRecursion (λ y. AtMost y s) d → length d ≡ n → IsSearched s table d n totals
    → IsReach s o p (d ∷ behind) totals
searched-all s o p table d behind n totals reach box whole h =
    record {
      size = h.size;
      each = λ place below.
          h.each place below
          ∙ ap (λ (xs : List (List ℕ)). is_some (find (λ x. has_total s table (plus (bundle_at s place) x)) xs)) (ap (λ (m : ℕ). take m d) (sym whole) ∙ take_all (length d) d (omega arith))
          ∙ can-more s o p (bundle_at s place) d behind table reach (length-bundle_at s place) box;
    }

or-false : (b : Bool) → b ≡ (b || false)
or-false true = refl
or-false false = refl

-- a key beside the units of a total with a bundle more
key-test : (s x : List ℕ) (table : List Bool) (place key units : ℕ) → AtMost x s → place + index_of s x < box_size s → units ≡ sum (bundle_at s place) + sum x → units < 65535
    → key ≡ key_of (slice_index_or table (place + index_of s x) false) (sum (bundle_at s (place + index_of s x))) → nat_eq key units ≡ has_total s table (plus (bundle_at s place) x)
key-test s x table place key units within below units_is few key_is =
    (λ i. nat_eq (key_is i) (units_is i)) ∙ by (slice_index_or table (place + index_of s x) false) refl (is_within s (plus (bundle_at s place) x)) refl
  where
    there : index_of s (plus (bundle_at s place) x) ≡ place + index_of s x
    there = index_of-plus s (bundle_at s place) x (length-bundle_at s place) (length-below x s within) ∙ ap (λ (n : ℕ). n + index_of s x) (index_of-bundle_at s place (omega arith))

    total : (w t : Bool) → is_within s (plus (bundle_at s place) x) ≡ w → slice_index_or table (place + index_of s x) false ≡ t → has_total s table (plus (bundle_at s place) x) ≡ (w && t)
    total w t e f = let g = ap (λ (n : ℕ). slice_index_or table n false) there ∙ f in λ i. e i && g i

    by : (t : Bool) → slice_index_or table (place + index_of s x) false ≡ t → (w : Bool) → is_within s (plus (bundle_at s place) x) ≡ w
        → nat_eq (key_of t (sum (bundle_at s (place + index_of s x)))) (sum (bundle_at s place) + sum x) ≡ has_total s table (plus (bundle_at s place) x)
    by true f true e = units-test s x place within below ∙ e ∙ sym (total true true e f)
    by true f false e = units-test s x place within below ∙ e ∙ sym (total false true e f)
    by false f true e = test-other 65535 (sum (bundle_at s place) + sum x) (omega (arith, few, units_is)) ∙ sym (total true false e f)
    by false f false e = test-other 65535 (sum (bundle_at s place) + sum x) (omega (arith, few, units_is)) ∙ sym (total false false e f)

-- the totals with a bundle more, from the keys of the table shifted by its place
pub joined-with : (s x : List ℕ) (table : List Bool) (units keys : List ℕ) (more : ℕ) (before after : List Bool) → AtMost x s → AreUnits s units → length keys ≡ box_size s → AreKeys units table keys → more ≡ sum x
    → IsJoined (drop (index_of s x) keys) units more before after → IsWith s table x before after
joined-with s x table units keys more before after within are sized keyed more_is joined = record { size = joined.size; each = λ place below. by place below (cases_lt (place + index_of s x) (box_size s)) }
  where
    left : length (drop (index_of s x) keys) + index_of s x ≡ box_size s
    left = let z = length-drop (index_of s x) keys in let i = index_of-small s x within in omega arith

    fits : (place : ℕ) → place < box_size s → slice_index units place + more < 65535
    fits place below =
        let at = index_of-small s x within in
        let e : slice_index units (index_of s x) ≡ more = are.each (index_of s x) at ∙ ap sum (bundle_at-index_of s x within) ∙ sym more_is in
        omega (arith, e, are.few place below, are.few (index_of s x) at)

    inside : (place : ℕ) → place + index_of s x < box_size s → nat_eq (slice_index (drop (index_of s x) keys) place) (slice_index units place + more) ≡ has_total s table (plus (bundle_at s place) x)
    inside place short =
        key-test s x table place (slice_index (drop (index_of s x) keys) place) (slice_index units place + more) within short (λ i. are.each place (omega arith) i + more_is i) (fits place (omega arith))
        (get_or-drop (index_of s x) keys place 0
        ∙ ap (λ (n : ℕ). slice_index keys n) (let e : index_of s x + place ≡ place + index_of s x = omega arith in e)
        ∙ keyed.each (place + index_of s x) (let z = keyed.size in omega arith)
        ∙ ap (key_of (slice_index_or table (place + index_of s x) false)) (are.each (place + index_of s x) short))

    outside : (place : ℕ) → place < box_size s → box_size s ≤ place + index_of s x → (w : Bool) → is_within s (plus (bundle_at s place) x) ≡ w → w ≡ false
    outside place below long true e =
        absurd (let i = index_of-small s (plus (bundle_at s place) x) (within-at_most s (plus (bundle_at s place) x) e) in
        let p = index_of-plus s (bundle_at s place) x (length-bundle_at s place) (length-below x s within) in
        let q = index_of-bundle_at s place below in
        omega arith)
    outside place below long false e = refl

    by : (place : ℕ) → place < box_size s → (place + index_of s x < box_size s) ⊎ (box_size s ≤ place + index_of s x) → slice_index_or after place false ≡ (slice_index_or before place false || has_total s table (plus (bundle_at s place) x))
    by place below (inl short) = joined.each place (let l = left in omega arith) ∙ ap (λ b. slice_index_or before place false || b) (inside place short)
    by place below (inr long) =
        joined.rest place (let l = left in omega arith)
        ∙ or-false (slice_index_or before place false)
        ∙ ap (λ b. slice_index_or before place false || (b && slice_index_or table (index_of s (plus (bundle_at s place) x)) false)) (sym (outside place below long (is_within s (plus (bundle_at s place) x)) refl))
