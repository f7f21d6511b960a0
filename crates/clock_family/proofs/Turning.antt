-- What a turn leaves of a pass.
use Rattle.std.proofs.Common.{◌≡◌, List, [], ◌∷◌, ◌++◌, length, drop, None, refl, sym, ◌∙◌, ap, append-nil}
use Rattle.turn_desk.specs.Histories.{placed}
use Rattle.turn_desk.specs.Passes.{Known, at_turn, after_giving}

drop-all : {E : Type 0} (h : List E) → drop (length h) h ≡ []
drop-all [] = refl
drop-all (x ∷ h) = drop-all h

-- nothing was appended in the turn
pub looked : {E O : Type 0} (old new : Known E O) (before : List E) → old.turn ≡ None → new ≡ after_giving (at_turn old before) before → new ≡ record old { seen = before }
looked old new before none e =
    let own : old.own ++ placed (length before) (drop (length before) before) ≡ old.own = ap (λ l. old.own ++ placed (length before) l) (drop-all before) ∙ append-nil old.own in
    e ∙ (λ i. record old { turn = sym none i; seen = before; own = own i })
