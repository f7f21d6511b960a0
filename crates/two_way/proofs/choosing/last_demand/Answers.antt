use Rattle.std.proofs.Common.{◌≡◌, ℕ, List, sym, ap, subst}
use Rattle.std.specs.Prelude.{Result, Ok, Err, IfOk, IfSome, option_copied}
use Rattle.lot_base.specs.Demands.{IsDemand}
use Rattle.two_way.proofs.choosing.last_demand.Goals as goal

copy-fits : {E : Type 0} (goods : List ℕ) (d : List (List ℕ)) (answer : Result (List (List ℕ)) E) → IfOk answer (λ x. x ≡ d) → IsDemand goods d → IfOk answer (λ x. IsDemand goods x)
copy-fits goods d (Ok x) same fits = subst (IsDemand goods) (sym same) fits
copy-fits goods d (Err e) same fits = tt

pub returns-clause-fits : goal.returns-clause-fits
returns-clause-fits c =
    let goods = c.args.clock.now.terms.goods in
    copy-fits goods c.unwrap.result.now c.copy.result c.copy.ensures (subst (λ o. IfSome o (IsDemand goods)) (ap option_copied c.unwrap.ensures) c.last_demand.ensures.fits)
