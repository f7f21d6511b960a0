-- What the demands after can clear, from what the demands further after can; and the walk from the first demand on.
use Rattle.std.proofs.Common.{◌≡◌, ◌≤◌, ℕ, ◌+◌, Bool, true, false, ◌&&◌, cond, List, [], ◌∷◌, length, Option, Some, None, is_some, refl, sym, ◌∙◌, ap, subst, arith, slice_index_or}
use Rattle.std.specs.Prelude.{find, option_map}
use Rattle.std.specs.List.{AllByRecursion}
use Rattle.lot_base.specs.Goods.{plus, is_within, AtMost}
use Rattle.lot_base.specs.Box.{index_of}
use Rattle.lot_base.specs.Choices.{sum_of, Clears, choices, clears}
use Rattle.lot_base.proofs.Within.{within-at_most, at_most-within}
use Rattle.lot_base.proofs.Index.{index_of-small, bundle_at-index_of}
use Rattle.lot_base.proofs.Vec.{length-below}
use Rattle.award_assembly.specs.Remaining.{first_choice_after, can_clear, IsReach, has_total}
use Rattle.award_assembly.proofs.Picks.{pick, find-choices, pick-skips, pick-takes}
use Rattle.award_assembly.proofs.Places.{clears-says}
use Rattle.award_assembly.proofs.Adding.{plus-assoc, plus-zeros, length-plus_same}

-- what clears together with more is within the supply
clears-within : (o p t s : List ℕ) → Clears o p t s → AtMost t s
clears-within [] [] [] [] c = tt
clears-within [] [] [] (s ∷ ss) c = absurd c
clears-within [] [] (t ∷ ts) s c = absurd c
clears-within [] (p ∷ ps) t s c = absurd c
clears-within (o ∷ os) [] t s c = absurd c
clears-within (o ∷ os) (p ∷ ps) [] s c = absurd c
clears-within (o ∷ os) (p ∷ ps) (t ∷ ts) [] c = absurd c
clears-within (o ∷ os) (p ∷ ps) (t ∷ ts) (s ∷ ss) c = (c.0, clears-within os ps ts ss c.2)

plus-left : (t u s : List ℕ) → length t ≡ length s → AtMost (plus t u) s → AtMost t s
plus-left [] u [] same h = tt
plus-left [] u (s ∷ ss) same h = absurd (omega arith)
plus-left (t ∷ ts) [] s same h = h
plus-left (t ∷ ts) (u ∷ us) [] same h = absurd h
plus-left (t ∷ ts) (u ∷ us) (s ∷ ss) same h = ((let le : t + u ≤ s = h.0 in omega arith), plus-left ts us ss (omega arith) h.1)

find-none : (test : List (List ℕ) → Bool) (xs : List (List (List ℕ))) → ((x : List (List ℕ)) → test x ≡ false) → find test xs ≡ None
find-none test [] none = refl
find-none test (x ∷ xs) none = ap (λ b. cond b (Some x) (find test xs)) (none x) ∙ find-none test xs none

after-outside : (s o p : List ℕ) (ds : List (List (List ℕ))) (t : List ℕ) → length t ≡ length s → is_within s t ≡ false → first_choice_after s o p ds t ≡ None
unfolding first_choice_after
after-outside s o p ds t same outside = find-none (λ xs. clears o p (plus t (sum_of s xs)) s) (choices ds) (λ xs. by xs (clears o p (plus t (sum_of s xs)) s) refl)
  where
    by : (xs : List (List ℕ)) (b : Bool) → clears o p (plus t (sum_of s xs)) s ≡ b → b ≡ false
    by xs true e =
        absurd (let h = at_most-within s t (plus-left t (sum_of s xs) s same (clears-within o p (plus t (sum_of s xs)) s (clears-says o p (plus t (sum_of s xs)) s e))) in
        let f : true ≡ false = sym h ∙ outside in cc)
    by xs false e = refl

-- a table tells of any total
has-can : (s o p : List ℕ) (ds : List (List (List ℕ))) (table : List Bool) (t : List ℕ) → IsReach s o p ds table → length t ≡ length s → has_total s table t ≡ can_clear s o p ds t
has-can s o p ds table t reach same = by (is_within s t) refl
  where
    by : (b : Bool) → is_within s t ≡ b → has_total s table t ≡ can_clear s o p ds t
    by true e =
        let within = within-at_most s t e in
        ap (λ b. b && slice_index_or table (index_of s t) false) e
        ∙ reach.each (index_of s t) (index_of-small s t within)
        ∙ ap (can_clear s o p ds) (bundle_at-index_of s t within)
    by false e = ap (λ b. b && slice_index_or table (index_of s t) false) e ∙ sym (ap is_some (after-outside s o p ds t same e))

-- with no demand after
after-none : (s o p t : List ℕ) → length t ≡ length s → first_choice_after s o p [] t ≡ cond (clears o p t s) (Some []) None
unfolding first_choice_after
after-none s o p t same = ap (λ u. cond {A = Option (List (List ℕ))} (clears o p u s) (Some []) None) (plus-zeros s t same)

pub can-none : (s o p t : List ℕ) → length t ≡ length s → can_clear s o p [] t ≡ clears o p t s
can-none s o p t same = ap is_some (after-none s o p t same) ∙ by (clears o p t s)
  where
    by : (b : Bool) → is_some (cond {A = Option (List (List ℕ))} b (Some []) None) ≡ b
    by true = refl
    by false = refl

-- with a demand more
after-pick : (s o p t : List ℕ) (d : List (List ℕ)) (ds : List (List (List ℕ))) → first_choice_after s o p (d ∷ ds) t ≡ pick (λ xs. clears o p (plus t (sum_of s xs)) s) d (choices ds)
unfolding first_choice_after
after-pick s o p t d ds = find-choices (λ xs. clears o p (plus t (sum_of s xs)) s) d ds

behind-after : (s o p t x : List ℕ) (ds : List (List (List ℕ))) → find (λ xs. clears o p (plus t (sum_of s (x ∷ xs))) s) (choices ds) ≡ first_choice_after s o p ds (plus t x)
unfolding first_choice_after
behind-after s o p t x ds = λ i. find (λ xs. clears o p (sym (plus-assoc t x (sum_of s xs)) i) s) (choices ds)

-- the bundle from which the demands after can clear is the one that the search through all choices takes
pub record Leads (s o p t x : List ℕ) (d : List (List ℕ)) (ds : List (List (List ℕ))) : Type 0 where
  pub more : first_choice_after s o p (d ∷ ds) t ≡ option_map (λ xs. x ∷ xs) (first_choice_after s o p ds (plus t x))
  pub can : can_clear s o p ds (plus t x) ≡ true
  pub bundle : AtMost x s
  pub within : AtMost (plus t x) s

record Taken (s o p t x : List ℕ) (d : List (List ℕ)) (ds : List (List (List ℕ))) : Type 0 where
  pub picks : pick (λ xs. clears o p (plus t (sum_of s xs)) s) d (choices ds) ≡ option_map (λ xs. x ∷ xs) (first_choice_after s o p ds (plus t x))
  pub can : can_clear s o p ds (plus t x) ≡ true
  pub bundle : AtMost x s

is_some-has : (o : Option (List (List ℕ))) → is_some o ≡ true → (v : List (List ℕ)) × (o ≡ Some v)
is_some-has None e = absurd (let f : false ≡ true = e in cc)
is_some-has (Some v) e = (v, refl)

is_some-not : (o : Option (List (List ℕ))) → is_some o ≡ false → o ≡ None
is_some-not None e = refl
is_some-not (Some v) e = absurd (let f : true ≡ false = e in cc)

same-length : (s t x : List ℕ) → length t ≡ length s → AtMost x s → length (plus t x) ≡ length s
same-length s t x same within = let e = length-below x s within in length-plus_same t x (omega arith) ∙ e

taken : (s o p t : List ℕ) (d : List (List ℕ)) (ds : List (List (List ℕ))) (table : List Bool) (x : List ℕ) → IsReach s o p ds table → length t ≡ length s → AllByRecursion (λ y. AtMost y s) d
    → find (λ y. has_total s table (plus t y)) d ≡ Some x → Taken s o p t x d ds
taken s o p t [] ds table x reach same box e = absurd (let f : None ≡ Some x = e in cc)
taken s o p t (y ∷ d) ds table x reach same box e = by (has_total s table (plus t y)) refl e (taken s o p t d ds table x reach same box.1)
  where
    same_can : has_total s table (plus t y) ≡ can_clear s o p ds (plus t y)
    same_can = has-can s o p ds table (plus t y) reach (same-length s t y same box.0)

    by : (b : Bool) → has_total s table (plus t y) ≡ b → cond b (Some y) (find (λ z. has_total s table (plus t z)) d) ≡ Some x → (find (λ z. has_total s table (plus t z)) d ≡ Some x → Taken s o p t x d ds) → Taken s o p t x (y ∷ d) ds
    by true h f later =
        let is : y ≡ x = cc in
        let can = sym same_can ∙ h in
        let found = is_some-has (first_choice_after s o p ds (plus t y)) can in
        subst (λ (z : List ℕ). Taken s o p t z (y ∷ d) ds) is (record {
          picks = pick-takes (λ xs. clears o p (plus t (sum_of s xs)) s) y d (choices ds) found.0 (behind-after s o p t y ds ∙ found.1) ∙ sym (ap (option_map (λ xs. y ∷ xs)) found.1);
          can = can;
          bundle = box.0;
        })
    by false h f later =
        let r = later f in
        let none = is_some-not (first_choice_after s o p ds (plus t y)) (sym same_can ∙ h) in
        record { picks = pick-skips (λ xs. clears o p (plus t (sum_of s xs)) s) y d (choices ds) (behind-after s o p t y ds ∙ none) ∙ r.picks; can = r.can; bundle = r.bundle }

missing : (s o p t : List ℕ) (d : List (List ℕ)) (ds : List (List (List ℕ))) (table : List Bool) → IsReach s o p ds table → length t ≡ length s → AllByRecursion (λ y. AtMost y s) d
    → find (λ y. has_total s table (plus t y)) d ≡ None → pick (λ xs. clears o p (plus t (sum_of s xs)) s) d (choices ds) ≡ None
missing s o p t [] ds table reach same box e = refl
missing s o p t (y ∷ d) ds table reach same box e = by (has_total s table (plus t y)) refl e (missing s o p t d ds table reach same box.1)
  where
    by : (b : Bool) → has_total s table (plus t y) ≡ b → cond b (Some y) (find (λ z. has_total s table (plus t z)) d) ≡ None
        → (find (λ z. has_total s table (plus t z)) d ≡ None → pick (λ xs. clears o p (plus t (sum_of s xs)) s) d (choices ds) ≡ None) → pick (λ xs. clears o p (plus t (sum_of s xs)) s) (y ∷ d) (choices ds) ≡ None
    by true h f later = absurd (cc)
    by false h f later =
        let none = is_some-not (first_choice_after s o p ds (plus t y)) (sym (has-can s o p ds table (plus t y) reach (same-length s t y same box.0)) ∙ h) in
        pick-skips (λ xs. clears o p (plus t (sum_of s xs)) s) y d (choices ds) (behind-after s o p t y ds ∙ none) ∙ later f

pub leads : (s o p t : List ℕ) (d : List (List ℕ)) (ds : List (List (List ℕ))) (table : List Bool) (x : List ℕ) → IsReach s o p ds table → length t ≡ length s → AllByRecursion (λ y. AtMost y s) d
    → find (λ y. has_total s table (plus t y)) d ≡ Some x → Leads s o p t x d ds
leads s o p t d ds table x reach same box e =
    let h = taken s o p t d ds table x reach same box e in
    record { more = after-pick s o p t d ds ∙ h.picks; can = h.can; bundle = h.bundle; within = by (is_within s (plus t x)) refl }
  where
    h : Taken s o p t x d ds
    h = taken s o p t d ds table x reach same box e

    by : (b : Bool) → is_within s (plus t x) ≡ b → AtMost (plus t x) s
    by true f = within-at_most s (plus t x) f
    by false f =
        absurd (let none = ap is_some (after-outside s o p ds (plus t x) (same-length s t x same h.bundle) f) in
        let g : true ≡ false = sym h.can ∙ none in cc)

pub leads-none : (s o p t : List ℕ) (d : List (List ℕ)) (ds : List (List (List ℕ))) (table : List Bool) → IsReach s o p ds table → length t ≡ length s → AllByRecursion (λ y. AtMost y s) d
    → find (λ y. has_total s table (plus t y)) d ≡ None → first_choice_after s o p (d ∷ ds) t ≡ None
leads-none s o p t d ds table reach same box e = after-pick s o p t d ds ∙ missing s o p t d ds table reach same box e

-- the table of one demand more
pub can-more : (s o p t : List ℕ) (d : List (List ℕ)) (ds : List (List (List ℕ))) (table : List Bool) → IsReach s o p ds table → length t ≡ length s → AllByRecursion (λ y. AtMost y s) d
    → is_some (find (λ y. has_total s table (plus t y)) d) ≡ can_clear s o p (d ∷ ds) t
can-more s o p t d ds table reach same box = by (find (λ y. has_total s table (plus t y)) d) refl
  where
    by : (r : Option (List ℕ)) → find (λ y. has_total s table (plus t y)) d ≡ r → is_some r ≡ can_clear s o p (d ∷ ds) t
    by None e = sym (ap is_some (leads-none s o p t d ds table reach same box e))
    by (Some x) e =
        let h = leads s o p t d ds table x reach same box e in
        let found = is_some-has (first_choice_after s o p ds (plus t x)) h.can in
        sym (ap is_some (h.more ∙ ap (option_map (λ xs. x ∷ xs)) found.1))
