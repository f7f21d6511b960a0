use Rattle.lyapunov.proofs.Payment.{choice-walrasian, choice-pays}
use Rattle.lyapunov.proofs.laws.award_law.Goals as goal

pub returns-clause-equilibrium : goal.returns-clause-equilibrium
returns-clause-equilibrium c = λ supply opening js sets u choice different path clearing. choice-walrasian supply opening u js sets choice different path clearing

pub returns-clause-payment : goal.returns-clause-payment
returns-clause-payment c = λ supply opening js sets rests u i choice others different one all clearing rest other_clearing.
    choice-pays supply opening u js sets rests i choice others different one all clearing rest other_clearing
