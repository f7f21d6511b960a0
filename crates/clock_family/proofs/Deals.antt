-- The passes of a desk are dealt out to the rows.
use Rattle.std.proofs.Common.{◌≡◌, inl, inr, ◌<◌, ◌≤◌, ℕ, ◌+◌, List, [], ◌∷◌, ◌++◌, length, get_or, set, take, drop, refl, sym, ◌∙◌, ap, subst, arith, append-nil, length-append}
use Rattle.std.specs.List.{AllByRecursion}
use Rattle.std.specs.declared.vec.Vec.{Vec}
use Rattle.std.proofs.lemmas.List.{get_or_at, take_all, drop_all}
use Rattle.std.proofs.lemmas.Bool.{cases_lt}
use Rattle.clock_book.specs.declared.entries.Entry.{Entry}
use Rattle.clock_book.specs.declared.origins.Origin.{Origin}
use Rattle.turn_desk.specs.Passes.{Known}
use Rattle.clock_family.specs.Closing.{IsSpare, IsRoomy}
use Rattle.clock_family.specs.Houses.{HousePassOf, room_in}
use Rattle.clock_family.specs.Opening.{LaidOf}
use Rattle.clock_family.specs.Rows.{cells, dealt, items_of, AreDealt}
use Rattle.clock_family.proofs.Places.{get-front}
use Rattle.clock_family.proofs.Rows.{dealt-long, cells-before, cells-last}

pub no-more : {A : Type 0} (xs : List A) → length xs ≡ 0 → xs ≡ []
no-more [] none = refl
no-more (x ∷ xs) none = absurd (omega (arith, none))

pub deal-none : {A : Type 0} (rows : List (List A)) (n : ℕ) → length rows ≤ n → rows ≡ take n rows ++ dealt (drop n rows) []
deal-none rows n long = sym (append-nil rows) ∙ (λ i. sym (take_all n rows long) i ++ dealt (sym (drop_all n rows long) i) [])

pub spare-roomy : {X Z : Type 0} (n : ℕ) (lists : List (Vec X Z)) → AllByRecursion (IsSpare n) lists → AllByRecursion (IsRoomy n) lists
spare-roomy n [] all = tt
spare-roomy n (l ∷ ls) all = (record { room_is = all.0.room_is }, spare-roomy n ls all.1)

pub spare-empty : {X Z : Type 0} (n : ℕ) (lists : List (Vec X Z)) → AllByRecursion (IsSpare n) lists → AllByRecursion (λ (r : List X). length r ≡ 0) (items_of lists)
spare-empty n [] all = tt
spare-empty n (l ∷ ls) all = (all.0.empty, spare-empty n ls all.1)

-- the passes of one desk more are dealt out
pub dealt-more : {D : Type 0} (laid : List (LaidOf D)) (l : LaidOf D) (rows : List (List (Known Entry Origin))) → AreDealt laid rows → length rows ≡ length l.passes → AreDealt (laid ++ l ∷ []) (dealt rows l.passes)
dealt-more {D} laid l rows are same =
    let longer : length (laid ++ l ∷ []) ≡ length laid + 1 = length-append laid (l ∷ []) in
    let Long : ℕ → Type 0 = λ n. AllByRecursion (λ (r : List (Known Entry Origin)). length r ≡ n) (dealt rows l.passes) in
    record {
      long = subst Long (sym longer) (dealt-long (length laid) rows l.passes same are.long);
      columns = λ k m below. elim (cases_lt k (length laid)) [
        | inl less ↦ cells-before (length laid) k rows l.passes are.long less ∙ are.columns k m less ∙ ap (λ (x : LaidOf D). x.passes) (sym (get-front laid (l ∷ []) k m less))
        | inr beyond ↦
            let here : length laid ≡ k = omega (arith, beyond, below, longer) in
            let last : get_or (laid ++ l ∷ []) k m ≡ l = get_or_at laid l [] m k here in
            ap (λ (n : ℕ). cells n (dealt rows l.passes)) (sym here) ∙ cells-last (length laid) rows l.passes same are.long ∙ ap (λ (x : LaidOf D). x.passes) (sym last)
      ];
    }

pub none-dealt : {D : Type 0} (laid : List (LaidOf D)) (rows : List (List (Known Entry Origin))) → length laid ≡ 0 → AllByRecursion (λ (r : List (Known Entry Origin)). length r ≡ 0) rows → AreDealt laid rows
none-dealt {D} laid rows none all =
    let Long : ℕ → Type 0 = λ n. AllByRecursion (λ (r : List (Known Entry Origin)). length r ≡ n) rows in
    record {
      long = subst Long (sym none) all;
      columns = λ k m below. absurd (omega (arith, below, none));
    }

pub room-set : (passes : List HousePassOf) (new : HousePassOf) → 0 < length passes → room_in (set passes 0 new) ≡ new.room
room-set [] new some = absurd (omega (arith, some))
room-set (p ∷ ps) new some = refl
