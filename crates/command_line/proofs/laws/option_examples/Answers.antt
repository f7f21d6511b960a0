use Rattle.std.proofs.Common.{◌≡◌, Bool, true, false, [], ◌∷◌, refl}
use Rattle.std.specs.Prelude.{codes}
use Rattle.command_line.specs.Arguments.{HasFlag}
use Rattle.command_line.proofs.NamedWords.{no-settle}
use Rattle.command_line.proofs.PlainWords.{unknown}
use Rattle.command_line.proofs.laws.option_examples.Goals as goal

twice : (given : Bool) → HasFlag (codes "--json") (codes "--json" ∷ codes "--json" ∷ []) given → ⊥
twice false has = let bad : codes "--json" ∷ codes "--json" ∷ [] ≡ [] = has in cc
twice true has = let bad : codes "--json" ∷ codes "--json" ∷ [] ≡ codes "--json" ∷ [] = has in cc

pub returns-clause-between : goal.returns-clause-between
returns-clause-between c = record {
  behind = codes "a" ∷ codes "--json" ∷ codes "j" ∷ [];
  options = codes "--json" ∷ [];
  words_are = refl;
  arguments = record { known = refl; plain_are = refl; options_are = refl };
  json_is = refl;
}

pub returns-clause-before : goal.returns-clause-before
returns-clause-before c = record {
  behind = codes "--json" ∷ codes "a" ∷ codes "j" ∷ [];
  options = codes "--json" ∷ [];
  words_are = refl;
  arguments = record { known = refl; plain_are = refl; options_are = refl };
  json_is = refl;
}

pub returns-clause-twice : goal.returns-clause-twice
returns-clause-twice c =
    no-settle (codes "settle" ∷ codes "a" ∷ codes "j" ∷ codes "--json" ∷ codes "--json" ∷ []) (codes "a" ∷ codes "j" ∷ []) (codes "--json" ∷ codes "--json" ∷ [])
    (record { behind = codes "a" ∷ codes "j" ∷ codes "--json" ∷ codes "--json" ∷ []; words_are = refl; named = refl; arguments = record { known = refl; plain_are = refl; options_are = refl } })
    (λ auction journals json same has. twice json has)

pub returns-clause-valued : goal.returns-clause-valued
returns-clause-valued c = unknown (codes "settle") (codes "a" ∷ codes "j" ∷ codes "--json=1" ∷ []) refl

pub returns-clause-dashes : goal.returns-clause-dashes
returns-clause-dashes c = unknown (codes "settle") (codes "a" ∷ codes "j" ∷ codes "--" ∷ []) refl
