-- A file is of one kind, and of one only.
use Rattle.std.proofs.Common.{◌≡◌, ◌≢◌, inl, inr, ⊎_elim, ℕ, ◌+◌, ◌<◌, ◌≤◌, List, [], ◌∷◌, ◌++◌, length, get_or, drop, refl, sym, ◌∙◌, ap, subst, arith, append_assoc, length-append, length-drop, take-append-drop}
use Rattle.std.proofs.lemmas.Bool.{cases_lt}
use Rattle.std.proofs.lemmas.List.{get_or_past, get_or_at}
use Rattle.report_journal.specs.declared.spellings.TheConstants.{OPEN, SHORTEST_FORMED}
use Rattle.report_journal.specs.Format.{Contents, header_bytes, first_gate, records, front, Fits, StandsFor, IsUnformed, IsDamaged, HasNoHeader}
use Rattle.report_journal.specs.Kinds.{Kind, Unformed, Formed, Damaged, Headless, IsOfKind}
use Rattle.report_journal.proofs.Chains.{IsEnd, IsChain, chain_of, one_chain}
use Rattle.report_journal.proofs.Prefixes.{one_header, header_length}

-- The file begins with these contents, and the list of records ends after them.
record Begins (x : Contents) (file : List ℕ) : Type 0 where
  pub rest : List ℕ
  pub split : file ≡ front x ++ rest
  pub some : 1 ≤ length rest
  pub fits : Fits x
  pub ends : IsEnd (length (front x)) file

shut_end : (x : Contents) (file : List ℕ) → StandsFor x file → get_or file (length (front x)) 0 ≢ OPEN
shut_end x file stands opened =
    stands.shut (sym (get_or_at (front x) stands.gate stands.free 0 (length (front x)) refl) ∙ sym (ap (λ (l : List ℕ). get_or l (length (front x)) 0) stands.whole) ∙ opened)

begins_formed : (x : Contents) (file : List ℕ) → StandsFor x file → Begins x file
begins_formed x file stands = record {
  rest = stands.gate ∷ stands.free;
  split = stands.whole;
  some = omega arith;
  fits = stands.fits;
  ends = inl (shut_end x file stands);
}

begins_damaged : (x : Contents) (file : List ℕ) → IsDamaged x file → Begins x file
begins_damaged x file damage =
    let n = length (front x) in
    let within : n < length file = below_open file n damage.open_gate in
    record {
      rest = drop n file;
      split = sym (take-append-drop n file) ∙ ap (λ (l : List ℕ). l ++ drop n file) damage.begins;
      some = omega (arith, within, length-drop n file);
      fits = damage.fits;
      ends = inr (damage.open_gate, damage.no_record);
    }
  where
    below_open : (file : List ℕ) (n : ℕ) → get_or file n 0 ≡ OPEN → n < length file
    below_open file n opened = elim (cases_lt n (length file)) [
      | inl less ↦ less
      | inr more ↦ absurd (let e : 0 ≡ OPEN = sym (get_or_past file n 0 more) ∙ opened in omega (arith, e))
    ]

module _ (file : List ℕ) where
  length_front : (x : Contents) → length (front x) ≡ first_gate x.header + length (records x.payloads)
  length_front x = omega (arith, length-append (OPEN ∷ header_bytes x.header) (records x.payloads))

  begins_chain : (x : Contents) → Begins x file → IsChain file (first_gate x.header) x.payloads (length (front x))
  begins_chain x begins =
      let gate = first_gate x.header in
      let head = OPEN ∷ header_bytes x.header in
      let size = length_front x in
      let head_is : length head ≡ gate = omega arith in
      let chain = chain_of head x.payloads begins.rest gate head_is begins.fits.payloads begins.some (omega (arith, size, begins.fits.end)) in
      let P : List ℕ → Type 0 = λ f. IsChain f gate x.payloads (length (front x)) in
      let Q : ℕ → Type 0 = λ e. IsChain (front x ++ begins.rest) gate x.payloads e in
      subst P (sym begins.split) (subst Q (sym size) chain)

  -- the bytes after the gate are the header and what follows
  begins_header : (x : Contents) (begins : Begins x file) → drop 1 file ≡ header_bytes x.header ++ (records x.payloads ++ begins.rest)
  begins_header x begins =
      ap (λ (l : List ℕ). drop 1 l) begins.split ∙ append_assoc (header_bytes x.header) (records x.payloads) begins.rest

  begins_open : (x : Contents) → Begins x file → get_or file 0 0 ≡ OPEN
  begins_open x begins = ap (λ (l : List ℕ). get_or l 0 0) begins.split

  begins_size : (x : Contents) → Begins x file → SHORTEST_FORMED ≤ length file
  begins_size x begins = omega (arith, ap length begins.split, length-append (front x) begins.rest, begins.some, length_front x, header_length x.header begins.fits.header)

  one_contents : (x y : Contents) → Begins x file → Begins y file → x ≡ y
  one_contents x y one two =
      let headers : x.header ≡ y.header =
      one_header x.header y.header (drop 1 file) (records x.payloads ++ one.rest) (records y.payloads ++ two.rest) one.fits.header two.fits.header (begins_header x one) (begins_header y two) in
      let P : ℕ → Type 0 = λ gate. IsChain file gate y.payloads (length (front y)) in
      let payloads : x.payloads ≡ y.payloads =
      one_chain file x.payloads y.payloads (first_gate x.header) (length (front x)) (length (front y)) (begins_chain x one) one.ends (subst P (ap first_gate (sym headers)) (begins_chain y two)) two.ends in
      λ i. record { header = headers i; payloads = payloads i }

  begins_formed_not : (x : Contents) → Begins x file → IsUnformed file → ⊥
  begins_formed_not x begins unformed = ⊎_elim (λ short. omega (arith, short, begins_size x begins)) (λ shut. shut (begins_open x begins)) unformed

  begins_headed : (x : Contents) → Begins x file → HasNoHeader file → ⊥
  begins_headed x begins headless = by_rest (records x.payloads ++ begins.rest) (omega (arith, length-append (records x.payloads) begins.rest, begins.some)) (begins.split ∙ append_assoc (OPEN ∷ header_bytes x.header) (records x.payloads) begins.rest)
    where
      by_rest : (rest : List ℕ) → 1 ≤ length rest → file ≡ OPEN ∷ header_bytes x.header ++ rest → ⊥
      by_rest [] some whole = omega (arith, some)
      by_rest (byte ∷ rest) some whole = headless.none x.header byte rest begins.fits.header whole

  not_both_ends : (x y : Contents) → StandsFor x file → IsDamaged y file → ⊥
  not_both_ends x y stands damage =
      let one = begins_formed x file stands in
      let two = begins_damaged y file damage in
      let same : x ≡ y = one_contents x y one two in
      shut_end x file stands (ap (λ (z : Contents). get_or file (length (front z)) 0) same ∙ damage.open_gate)

  -- of no two kinds
  pub only_one : (one other : Kind) → IsOfKind one file → IsOfKind other file → other ≡ one
  only_one Unformed Unformed is is' = refl
  only_one Unformed (Formed y) is is' = absurd (begins_formed_not y (begins_formed y file is') is)
  only_one Unformed (Damaged y) is is' = absurd (begins_formed_not y (begins_damaged y file is') is)
  only_one Unformed Headless is is' = absurd (is'.formed is)
  only_one (Formed x) Unformed is is' = absurd (begins_formed_not x (begins_formed x file is) is')
  only_one (Formed x) (Formed y) is is' = ap Formed (one_contents y x (begins_formed y file is') (begins_formed x file is))
  only_one (Formed x) (Damaged y) is is' = absurd (not_both_ends x y is is')
  only_one (Formed x) Headless is is' = absurd (begins_headed x (begins_formed x file is) is')
  only_one (Damaged x) Unformed is is' = absurd (begins_formed_not x (begins_damaged x file is) is')
  only_one (Damaged x) (Formed y) is is' = absurd (not_both_ends y x is' is)
  only_one (Damaged x) (Damaged y) is is' = ap Damaged (one_contents y x (begins_damaged y file is') (begins_damaged x file is))
  only_one (Damaged x) Headless is is' = absurd (begins_headed x (begins_damaged x file is) is')
  only_one Headless Unformed is is' = absurd (is.formed is')
  only_one Headless (Formed y) is is' = absurd (begins_headed y (begins_formed y file is') is)
  only_one Headless (Damaged y) is is' = absurd (begins_headed y (begins_damaged y file is') is)
  only_one Headless Headless is is' = refl
