use Rattle.lyapunov.proofs.Payment.{account-pays, vcg-one}
use Rattle.lyapunov.proofs.laws.payment_law.Goals as goal

pub returns-clause-pays : goal.returns-clause-pays
returns-clause-pays c = λ supply opening js sets rests u i x y strong one same all others. account-pays supply opening u js i sets rests x y strong one same all others

pub returns-clause-one : goal.returns-clause-one
returns-clause-one c = λ supply opening js u i x pay other is also. vcg-one supply opening u js x i pay other is also
