-- The step lemma, read off the tables of a demand.
use Rattle.std.proofs.Common.{◌≡◌, ◌<◌, ◌∙◌, ◌^◌, sym, ap, subst, ℕ, List, length}
use Rattle.std.specs.Prelude.{pos}
use Rattle.lot_base.specs.Demands.{IsTable, least, greatest}
use Rattle.lot_base.proofs.Sets.{least_step, greatest_step}
use Rattle.demand_set.specs.Slopes.{AreFalls, AreRises}

pub falls : (supply : List ℕ) (bundles held : List (List ℕ)) (goods : ℕ) (table : List ℕ) → goods ≡ length supply → held ≡ bundles
    → IsTable goods (least held) table → AreFalls supply bundles table
falls supply bundles held goods table count same is = λ u p set strong long true below.
    let P : ℕ → Type 0 = λ n. set < 2 ^ n in
    ap pos (is.entries set (subst P (sym count) below) ∙ ap (λ d. least d set) (same ∙ true)) ∙ least_step supply u p set strong long

pub rises : (supply : List ℕ) (bundles held : List (List ℕ)) (goods : ℕ) (table : List ℕ) → goods ≡ length supply → held ≡ bundles
    → IsTable goods (greatest held) table → AreRises supply bundles table
rises supply bundles held goods table count same is = λ u p set strong long true below priced.
    let P : ℕ → Type 0 = λ n. set < 2 ^ n in
    ap pos (is.entries set (subst P (sym count) below) ∙ ap (λ d. greatest d set) (same ∙ true)) ∙ greatest_step supply u p set strong long priced
