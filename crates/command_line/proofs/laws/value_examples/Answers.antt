use Rattle.std.proofs.Common.{[], ◌∷◌, ◌++◌, ap, arith, inl, inr, refl, sym}
use Rattle.std.specs.Prelude.{codes}
use Rattle.std.proofs.lemmas.Fmt.{decimal_digit}
use Rattle.command_line.specs.Arguments.{IsNumberOption}
use Rattle.command_line.proofs.Decimals.{no-numeral}
use Rattle.command_line.proofs.NamedWords.{no-trial}
use Rattle.command_line.proofs.OptionWords.{value-refused}
use Rattle.command_line.proofs.PlainWords.{unknown}
use Rattle.command_line.proofs.laws.value_examples.Goals as goal

two-doors : IsNumberOption (codes "--doors=") 1 64 4 2 (codes "--doors=2" ∷ [])
two-doors = inr (ap (λ digits. (codes "--doors=" ++ digits) ∷ []) (sym (decimal_digit 2 (omega arith))), record { at_least = omega arith; at_most = omega arith })

pub returns-clause-behind : goal.returns-clause-behind
returns-clause-behind c = record {
  behind = codes "--doors" ∷ codes "2" ∷ codes "a" ∷ codes "j" ∷ codes "h" ∷ [];
  options = codes "--doors=2" ∷ [];
  words_are = refl;
  arguments = record { known = refl; plain_are = refl; options_are = refl };
  doors_are = two-doors;
  sessions_are = inl (refl, refl);
}

pub returns-clause-joined : goal.returns-clause-joined
returns-clause-joined c = record {
  behind = codes "a" ∷ codes "j" ∷ codes "h" ∷ codes "--doors=2" ∷ [];
  options = codes "--doors=2" ∷ [];
  words_are = refl;
  arguments = record { known = refl; plain_are = refl; options_are = refl };
  doors_are = two-doors;
  sessions_are = inl (refl, refl);
}

pub returns-clause-default : goal.returns-clause-default
returns-clause-default c = record {
  behind = codes "a" ∷ codes "v" ∷ [];
  options = [];
  words_are = refl;
  arguments = record { known = refl; plain_are = refl; options_are = refl };
  workers_are = inl (refl, refl);
}

pub returns-clause-alone : goal.returns-clause-alone
returns-clause-alone c = unknown (codes "serve") (codes "a" ∷ codes "j" ∷ codes "h" ∷ codes "--doors" ∷ []) refl

pub returns-clause-leading : goal.returns-clause-leading
returns-clause-leading c =
    no-trial (codes "trial" ∷ codes "a" ∷ codes "v" ∷ codes "--workers" ∷ codes "01" ∷ []) (codes "a" ∷ codes "v" ∷ []) (codes "--workers=01" ∷ [])
    (record { behind = codes "a" ∷ codes "v" ∷ codes "--workers" ∷ codes "01" ∷ []; words_are = refl; named = refl; arguments = record { known = refl; plain_are = refl; options_are = refl } })
    (λ auction values workers same number. value-refused (codes "--workers=") (codes "01") 1 64 1 (codes "--workers=01" ∷ []) refl (λ n low high digits. no-numeral (codes "01") n (omega arith) digits refl) workers number)
