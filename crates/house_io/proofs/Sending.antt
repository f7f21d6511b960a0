-- Sending a text piece by piece: what was sent so far is a front of it.
use Rattle.std.proofs.Common.{◌≡◌, ℕ, List, [], ◌∷◌, ◌++◌, ◌+◌, ◌-◌, length, take, drop, Option, ap, sym, ◌∙◌, arith, append_assoc, append-nil, length-append}
use Rattle.std.proofs.lemmas.List.{take-append-drop}
use Rattle.house_io.specs.Told.{IfTold}
use Rattle.house_io.specs.Links.{LinkBytes}
use Rattle.house_io.proofs.Telling.{told-trans, told-map}
use Rattle.house_io.proofs.Fronts.{front-of}

-- this was appended to what was written, and nothing was taken
abbrev pub Adds : List ℕ → LinkBytes → LinkBytes → Type 0
Adds done before after = (after.left ≡ before.left) × (after.written ≡ before.written ++ done)

pub sent-more : (old now new : Option LinkBytes) (text rest done : List ℕ) (n : ℕ) → text ≡ done ++ rest → IfTold old now (Adds done) → IfTold now new (Adds (take n rest))
    → (more : List ℕ) × (text ≡ more ++ drop n rest) × IfTold old new (Adds more)
sent-more old now new text rest done n e p q = (
  done ++ take n rest,
  e ∙ ap (λ xs. done ++ xs) (sym (take-append-drop n rest)) ∙ sym (append_assoc done (take n rest) (drop n rest)),
  told-trans old now new _ _ _ p q (λ x y z f h. (h.0 ∙ f.0, h.1 ∙ ap (λ xs. xs ++ take n rest) f.1 ∙ append_assoc x.written done (take n rest))),
)

pub sent-front : (old now new : Option LinkBytes) (text rest done : List ℕ) → text ≡ done ++ rest → IfTold old now (Adds done) → IfTold now new (λ before after. (after.left ≡ before.left) × (after.written ≡ before.written))
    → IfTold old new (λ before after. (after.left ≡ before.left) × (after.written ≡ before.written ++ take (length after.written - length before.written) text))
sent-front old now new text rest done e p q =
    told-trans old now new _ _ _ p q (λ x y z f h.
    let all : z.written ≡ x.written ++ done = h.1 ∙ f.1 in
    let size : length z.written ≡ length x.written + length done = ap length all ∙ length-append x.written done in
    let n : length done ≡ length z.written - length x.written = omega (arith, size) in
    (h.0 ∙ f.0, all ∙ ap (λ xs. x.written ++ xs) (sym (front-of done rest text e) ∙ ap (λ k. take k text) n)))

pub sent-all : (old now : Option LinkBytes) (text rest done : List ℕ) → length rest ≡ 0 → text ≡ done ++ rest → IfTold old now (Adds done) → IfTold old now (Adds text)
sent-all old now text [] done n e p = told-map old now _ _ p (λ x y f. (f.0, f.1 ∙ ap (λ xs. x.written ++ xs) (sym (e ∙ append-nil done))))
sent-all old now text (r ∷ rest) done n e p = absurd (omega arith)
