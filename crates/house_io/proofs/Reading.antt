-- Reading a source piece by piece: what was taken so far is a front of what was left.
use Rattle.std.proofs.Common.{◌≡◌, ◌<◌, ◌≤◌, ℕ, List, [], ◌++◌, ◌+◌, length, take, drop, Option, ap, sym, ◌∙◌, arith, append_assoc, append-nil, length-append}
use Rattle.std.proofs.Math.Seq.{drop-append_seam}
use Rattle.house_io.specs.Told.{IfTold}
use Rattle.house_io.specs.Sources.{Takes}
use Rattle.house_io.specs.Reading.{TakesFront}
use Rattle.house_io.proofs.Telling.{told-trans, told-map}
use Rattle.house_io.proofs.Fronts.{rest-of}

-- this was taken
abbrev pub Took : List ℕ → List ℕ → List ℕ → Type 0
Took text before after = before ≡ text ++ after

-- a front, and then another piece
pub took-more : (old now new : Option (List ℕ)) (text into : List ℕ) (n : ℕ) → IfTold old now (Took text) → IfTold now new (Takes n into) → IfTold old new (Took (text ++ take n into))
took-more old now new text into n p q =
    told-trans old now new _ _ _ p q (λ x y z f h. f ∙ ap (λ xs. text ++ xs) h.bytes ∙ sym (append_assoc text (take n into) z))

-- a front, and then the end
pub took-all : (old now new : Option (List ℕ)) (text into : List ℕ) → 0 < length into → IfTold old now (Took text) → IfTold now new (Takes 0 into) → IfTold old new (λ before after. (text ≡ before) × (after ≡ []))
took-all old now new text into room p q =
    told-trans old now new _ _ _ p q (λ x y z f h.
    let empty : y ≡ [] = (h.at_end room).0 (λ _. 0) in
    (sym (f ∙ ap (λ xs. text ++ xs) empty ∙ append-nil text), sym h.bytes ∙ empty))

-- a front that is no longer than the limit, and no more
pub took-front : (old now : Option (List ℕ)) (text : List ℕ) (limit : ℕ) → length text ≤ limit → IfTold old now (Took text) → IfTold old now (TakesFront limit)
took-front old now text limit few p =
    told-map old now _ _ p (λ x y f.
    let size : length x ≡ length text + length y = ap length f ∙ length-append text y in
    record { rest = rest-of text y x f; few = omega (arith, size) })

-- the same, where the last call took nothing
pub took-no-more : (old now new : Option (List ℕ)) (text : List ℕ) (limit : ℕ) → length text ≤ limit → IfTold old now (Took text) → IfTold now new (λ before after. after ≡ before) → IfTold old new (TakesFront limit)
took-no-more old now new text limit few p q =
    took-front old new text limit few (told-trans old now new _ _ _ p q (λ x y z f h. f ∙ ap (λ xs. text ++ xs) (sym h)))

-- a front that is one longer than the limit
pub took-too-much : (old now : Option (List ℕ)) (text : List ℕ) (limit : ℕ) → length text ≡ limit + 1 → IfTold old now (Took text) → IfTold old now (λ before after. (limit < length before) × (after ≡ drop (limit + 1) before))
took-too-much old now text limit long p =
    told-map old now _ _ p (λ x y f.
    let size : length x ≡ length text + length y = ap length f ∙ length-append text y in
    (omega (arith, size), sym (ap (λ k. drop k x) (sym long) ∙ ap (drop (length text)) f ∙ drop-append_seam text y)))
