use Rattle.std.proofs.Common.{◌≡◌, false, List, refl, sym, subst}
use Rattle.std.specs.List.{AllByRecursion}
use Rattle.house_serve.specs.declared.houses.DoorLog.{DoorLog}
use Rattle.house_run.proofs.hosting.close_served.Goals as goal

pub returns-then-failed-clause-outcome : goal.returns-then-failed-clause-outcome
returns-then-failed-clause-outcome g c =
    let P : List (DoorLog g.row.N-Door.Denot) → Type 0 = λ logs. AllByRecursion (λ (log : DoorLog g.row.N-Door.Denot). log.failed ≡ false) logs in
    (refl, λ all. c.has_failed-failed.ensures.some c.if-failed.true (subst P (sym c.deref.ensures.value) all))

pub returns-clause-outcome : goal.returns-clause-outcome
returns-clause-outcome g c =
    let P : List (DoorLog g.row.N-Door.Denot) → Type 0 = λ logs. AllByRecursion (λ (log : DoorLog g.row.N-Door.Denot). log.failed ≡ false) logs in
    (subst P c.deref.ensures.value (c.has_failed-failed.ensures.none c.if-failed.false), c.take_apart.ensures.clocks, c.close_logs.ensures.ends)
