-- Writing a text piece by piece: what was written so far is a front of it.
use Rattle.std.proofs.Common.{◌≡◌, ℕ, List, [], ◌∷◌, ◌++◌, ◌+◌, ◌-◌, length, take, drop, Option, ap, sym, ◌∙◌, arith, append_assoc, append-nil, length-append}
use Rattle.std.proofs.lemmas.List.{take-append-drop}
use Rattle.house_io.specs.Told.{IfTold}
use Rattle.house_io.proofs.Telling.{told-trans, told-map}
use Rattle.house_io.proofs.Fronts.{front-of}

-- this was appended
abbrev pub Appends : List ℕ → List ℕ → List ℕ → Type 0
Appends done before after = after ≡ before ++ done

-- a front of a text, and then a front of the rest
pub wrote-more : (old now new : Option (List ℕ)) (text rest done : List ℕ) (n : ℕ) → text ≡ done ++ rest → IfTold old now (Appends done) → IfTold now new (Appends (take n rest))
    → (more : List ℕ) × (text ≡ more ++ drop n rest) × IfTold old new (Appends more)
wrote-more old now new text rest done n e p q = (
  done ++ take n rest,
  e ∙ ap (λ xs. done ++ xs) (sym (take-append-drop n rest)) ∙ sym (append_assoc done (take n rest) (drop n rest)),
  told-trans old now new _ _ _ p q (λ x y z f h. h ∙ ap (λ xs. xs ++ take n rest) f ∙ append_assoc x done (take n rest)),
)

-- a front of a text, and no more
pub wrote-front : (old now new : Option (List ℕ)) (text rest done : List ℕ) → text ≡ done ++ rest → IfTold old now (Appends done) → IfTold now new (λ before after. after ≡ before)
    → IfTold old new (λ before after. after ≡ before ++ take (length after - length before) text)
wrote-front old now new text rest done e p q =
    told-trans old now new _ _ _ p q (λ x y z f h.
    let all : z ≡ x ++ done = h ∙ f in
    let size : length z ≡ length x + length done = ap length all ∙ length-append x done in
    let n : length done ≡ length z - length x = omega (arith, size) in
    all ∙ ap (λ xs. x ++ xs) (sym (front-of done rest text e) ∙ ap (λ k. take k text) n))

-- a front with nothing after it is the whole text
pub wrote-all : (old now : Option (List ℕ)) (text rest done : List ℕ) → length rest ≡ 0 → text ≡ done ++ rest → IfTold old now (Appends done) → IfTold old now (Appends text)
wrote-all old now text [] done n e p = told-map old now _ _ p (λ x y f. f ∙ ap (λ xs. x ++ xs) (sym (e ∙ append-nil done)))
wrote-all old now text (r ∷ rest) done n e p = absurd (omega arith)
