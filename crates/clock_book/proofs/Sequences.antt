-- Lists that begin one another, and reports of which payloads do.
use Rattle.std.proofs.Common.{◌≡◌, ℕ, List, [], ◌∷◌, ◌++◌, length, map, refl, sym, ◌∙◌, ap, subst, arith, append_assoc, length-append}
use Rattle.lot_base.specs.declared.auction_terms.Terms.{Terms}
use Rattle.demand_set.specs.declared.reports.Report.{Report}
use Rattle.clock.specs.Reports.{ClockHistory}
use Rattle.clock.specs.Judging.{TakesAll, judgement_of}
use Rattle.clock.specs.declared.judging.Judgement.TheVariants.{Take}
use Rattle.clock.proofs.Append.{takes-at}
use Rattle.recovery.specs.Entries.{payload_of, AreReportsOf, SpellsNone}
use Rattle.recovery.proofs.Spelling.{one-report}
use Rattle.clock_book.proofs.Chained.{IsPrefix}

-- a list before a last element
pub before-last : {X : Type 0} (zs qs : List X) (p m : X) (more : List X) → zs ++ p ∷ [] ≡ qs ++ m ∷ more → IsPrefix qs zs
before-last zs [] p m more same = record { more = zs; is = refl }
before-last [] (q ∷ qs) p m more same = absurd (let n = ap length same in omega (arith, n, length-append qs (m ∷ more)))
before-last {X} (a ∷ zs) (q ∷ qs) p m more same =
    let heads : a ≡ q = cc same in
    let tails : zs ++ p ∷ [] ≡ qs ++ m ∷ more = cc same in
    let rest = before-last zs qs p m more tails in
    record { more = rest.more; is = λ i. heads i ∷ rest.is i }

-- of two lists with a last element that are the same
pub lasts : {X : Type 0} (zs bs : List X) (p q : X) → zs ++ p ∷ [] ≡ bs ++ q ∷ [] → (zs ≡ bs) × (p ≡ q)
lasts [] [] p q same = (refl, cc same)
lasts [] (b ∷ bs) p q same = absurd (let n = ap length same in omega (arith, n, length-append bs (q ∷ [])))
lasts (a ∷ zs) [] p q same = absurd (let n = ap length same in omega (arith, n, length-append zs (p ∷ [])))
lasts {X} (a ∷ zs) (b ∷ bs) p q same =
    let heads : a ≡ b = cc same in
    let tails : zs ++ p ∷ [] ≡ bs ++ q ∷ [] = cc same in
    let rest = lasts zs bs p q tails in
    (λ i. heads i ∷ rest.0 i, rest.1)

module _ (terms : Terms) where
  abbrev payload : Report → List ℕ
  payload r = payload_of (length terms.goods) r

  -- reports whose payloads begin those of others begin them
  pub reports-prefix : (xs ys : List Report) (more : List (List ℕ)) → AreReportsOf terms xs → AreReportsOf terms ys → map payload ys ≡ map payload xs ++ more → IsPrefix xs ys
  reports-prefix [] ys more are are' same = record { more = ys; is = refl }
  reports-prefix (x ∷ xs) [] more are are' same = absurd (let n = ap length same in omega arith)
  reports-prefix (x ∷ xs) (y ∷ ys) more are are' same =
      let heads : payload y ≡ payload x = cc same in
      let tails : map payload ys ≡ map payload xs ++ more = cc same in
      let one = one-report terms (payload x) x y (record { report = are.0; is = refl }) (record { report = are'.0; is = sym heads }) in
      let rest = reports-prefix xs ys more are.1 are'.1 tails in
      record { more = rest.more; is = λ i. sym one i ∷ rest.is i }

  -- none of the payloads of reports is that of no report
  pub among : (ys : List Report) (qs : List (List ℕ)) (p : List ℕ) (more : List (List ℕ)) → AreReportsOf terms ys → map payload ys ≡ (qs ++ p ∷ []) ++ more → SpellsNone terms p → ⊥
  among [] qs p more are same none = let n = ap length same in omega (arith, n, length-append (qs ++ p ∷ []) more, length-append qs (p ∷ []))
  among (y ∷ ys) [] p more are same none = none y (record { report = are.0; is = (let e : p ≡ payload y = cc same in e) })
  among (y ∷ ys) (q ∷ qs) p more are same none = among ys qs p more are.1 (cc same) none

pub takes-within : (c : ClockHistory) (ys before : List Report) (r : Report) (more : List Report) → TakesAll (record c { reports = [] }) ys → ys ≡ (before ++ r ∷ []) ++ more → judgement_of (record c { reports = before }) r ≡ Take
takes-within c ys before r more all same =
    let T : List Report → Type 0 = λ l. TakesAll (record c { reports = [] }) l in
    takes-at (record c { reports = [] }) before r more (subst T (same ∙ append_assoc before (r ∷ []) more) all)
