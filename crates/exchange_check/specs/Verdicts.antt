-- When a verdict is the right one.
use Rattle.std.specs.Prelude.{ℕ, List, ℤ}
use Rattle.lot_base.specs.Economy.{IsStrongSubstitutes}
use Rattle.exchange_check.specs.Exchange.{IsFirstBroken}
use Rattle.exchange_check.specs.declared.verdict.Verdict.{Verdict}
use Rattle.exchange_check.specs.declared.verdict.Verdict.TheVariants.{Holds, Breaks}

-- the exchange property holds, or this is the first triple that breaks it
abbrev pub IsRight : List ℕ → (List ℕ → ℤ) → Verdict → Type 0
IsRight supply u Holds = IsStrongSubstitutes supply u
IsRight supply u (Breaks x y good) = IsFirstBroken supply u x y good
