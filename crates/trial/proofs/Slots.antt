-- Lists of slots, of which each is empty or holds what belongs at its place.
use Rattle.std.proofs.Common.{◌≡◌, ◌<◌, ◌≤◌, ◌^◌, ℕ, List, [], ◌∷◌, ◌++◌, length, get_or, set, Option, None, sym, ◌∙◌, ap, arith, subst, ⊎_elim}
use Rattle.std.specs.Prelude.{IfSome}
use Rattle.std.proofs.lemmas.Bool.{cases_eq, cases_lt}
use Rattle.std.proofs.lemmas.List.{length-append, length-set, get_or-set_same, get_or-set_other, get_or_append_left, get_or_push}
use Rattle.valuation.specs.Carried.{IsColumn}
use Rattle.valuation.specs.declared.columns.Column.{Column}
use Rattle.trial.specs.Rounds.{AreColumns}

-- what stands at each place of a list of slots, one of which is filled or emptied
pub slots-set : {X : Type 0} (P : ℕ → X → Type 0) (slots : List (Option X)) (n : ℕ) (v : Option X) → n < length slots → IfSome v (P n) → ((k : ℕ) (d : Option X) → k < length slots → IfSome (get_or slots k d) (P k))
    → (k : ℕ) (d : Option X) → k < length (set slots n v) → IfSome (get_or (set slots n v) k d) (P k)
slots-set {X} P slots n v within here each k d below =
    let inside : k < length slots = (let l = length-set slots n v in omega (arith, l, below)) in
    ⊎_elim
    (λ (same : k ≡ n).
    let at : get_or (set slots n v) k d ≡ v = ap (λ i. get_or (set slots n v) i d) same ∙ get_or-set_same slots n v d within in
    subst (λ (o : Option X). IfSome o (P k)) (sym at) (subst (λ (i : ℕ). IfSome v (P i)) (sym same) here))
    (λ other. subst (λ (o : Option X). IfSome o (P k)) (sym (get_or-set_other slots n k v d other)) (each k d inside))
    (cases_eq k n)

-- one empty slot more
pub slots-push : {X : Type 0} (P : ℕ → X → Type 0) (slots next : List (Option X)) → next ≡ slots ++ None ∷ [] → ((k : ℕ) (d : Option X) → k < length slots → IfSome (get_or slots k d) (P k)) → (k : ℕ) (d : Option X) → k < length next → IfSome (get_or next k d) (P k)
slots-push {X} P slots next is each k d below =
    let long = ap length is in
    let more = length-append slots (None ∷ []) in
    ⊎_elim
    (λ (less : k < length slots). subst (λ (o : Option X). IfSome o (P k)) (sym (ap (λ l. get_or l k d) is ∙ get_or_append_left slots (None ∷ []) d k less)) (each k d less))
    (λ (rest : length slots ≤ k). subst (λ (o : Option X). IfSome o (P k)) (sym (ap (λ l. get_or l k d) is ∙ get_or_push slots None d k (let e : length slots ≡ k = omega (arith, below, long, more, rest) in e))) tt)
    (cases_lt k (length slots))

-- the columns, of which one was put at its place or taken out
pub columns-set : (goods : List ℕ) (columns : List (Option Column)) (n : ℕ) (v : Option Column) → n < 2 ^ length goods → IfSome v (λ c. IsColumn goods n c.units.items) → AreColumns goods columns → AreColumns goods (set columns n v)
columns-set goods columns n v within here are = record {
  count = length-set columns n v ∙ are.count;
  each = slots-set (λ k c. IsColumn goods k c.units.items) columns n v (let c = are.count in omega (arith, c, within)) here are.each;
}

pub column-at : (goods : List ℕ) (columns : List (Option Column)) (n : ℕ) (v other : Option Column) → v ≡ get_or columns n other → n < 2 ^ length goods → AreColumns goods columns → IfSome v (λ c. IsColumn goods n c.units.items)
column-at goods columns n v other is within are = subst (λ (o : Option Column). IfSome o (λ c. IsColumn goods n c.units.items)) (sym is) (are.each n other (let c = are.count in omega (arith, c, within)))
