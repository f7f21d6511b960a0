use Rattle.std.proofs.Common.{◌≡◌, ℕ, zero, suc, refl, ap, ◌∙◌}
use Rattle.clock.specs.Reports.{ClockHistory}
use Rattle.clock.specs.Repeats.{repeated}
use Rattle.clock_tests.proofs.tests.repeated.Goals as goal

terms-kept : (c : ClockHistory) (rounds : ℕ) → (repeated rounds c).terms ≡ c.terms
terms-kept c zero = refl
terms-kept c (suc rounds) = terms-kept c rounds

pub returns-in-Ok : goal.returns-in-Ok
returns-in-Ok c = (ap (λ clock. clock.history.terms) c.in-Ok.ensures.ok) ∙ terms-kept c.args.clock.now.history c.in-Ok.made
