use Rattle.lyapunov.proofs.Without.{lower_each_round, lower_at_end, fewer_without}
use Rattle.lyapunov.proofs.laws.without_law.Goals as goal

pub returns-clause-round : goal.returns-clause-round
returns-clause-round c = λ supply opening js sets rests u i one all others fewer. lower_each_round supply u js i opening sets rests all.substitutes one all.goods all.steps others.steps fewer

pub returns-clause-end : goal.returns-clause-end
returns-clause-end c = λ supply opening js sets rests u i one all ended others. lower_at_end supply u js i opening sets rests all.substitutes one all.goods all.steps ended others.steps

pub returns-clause-steps : goal.returns-clause-steps
returns-clause-steps c = λ supply opening js sets rests u i one all ended others. fewer_without supply u js i opening sets rests all.substitutes one all.goods all.steps ended others.steps
