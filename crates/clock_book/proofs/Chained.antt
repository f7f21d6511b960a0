-- Of two lists of records with which a file begins one begins the other.
use Rattle.std.proofs.Common.{◌≡◌, ◌⊎◌, inl, inr, ⊎_elim, ◌<◌, ◌^◌, ℕ, ◌+◌, List, [], ◌∷◌, ◌++◌, length, get_or, take, drop, refl, sym, ◌∙◌, ap, subst, arith, append_assoc, length-append}
use Rattle.byte_numbers.specs.Spelling.{big_bytes, big_number}
use Rattle.byte_numbers.proofs.Spelled.{read_back}
use Rattle.std.specs.List.{AllByRecursion}
use Rattle.std.proofs.lemmas.List.{take_at, drop_at, get_or_at, append-nil}
use Rattle.report_journal.specs.declared.headers.Header.{Header}
use Rattle.report_journal.specs.declared.spellings.TheConstants.{OPEN}
use Rattle.report_journal.specs.Format.{Contents, header_bytes, records, front, IsPayload, StandsFor, IsDamaged}
use Rattle.report_journal.proofs.Chains.{IsRecord, IsEnd, chain_of}
use Rattle.recovery.specs.Journaled.{BeginsWith}
use Rattle.recovery.proofs.Beginning.{records-append}

-- the first list begins the second one
pub record IsPrefix {X : Type 0} (xs ys : List X) : Type 0 where
  pub more : List X
  pub is : ys ≡ xs ++ more

-- of two lists of records at the front of the same bytes
records-either : (ps qs : List (List ℕ)) (x y : List ℕ) → AllByRecursion IsPayload ps → AllByRecursion IsPayload qs → records ps ++ x ≡ records qs ++ y → IsPrefix ps qs ⊎ IsPrefix qs ps
records-either [] qs x y all all' same = inl (record { more = qs; is = refl })
records-either (p ∷ ps) [] x y all all' same = inr (record { more = p ∷ ps; is = refl })
records-either (p ∷ ps) (q ∷ qs) x y all all' same =
    let sizes : big_bytes 4 (length p) ≡ big_bytes 4 (length q) = ap (λ (l : List ℕ). take 4 (drop 1 l)) same in
    let p_fits : length p < 2 ^ 32 = omega (arith, all.0) in
    let q_fits : length q < 2 ^ 32 = omega (arith, all'.0) in
    let long : length p ≡ length q = sym (read_back 4 (length p) p_fits) ∙ ap (big_number 4) sizes ∙ read_back 4 (length q) q_fits in
    let after : (p ++ records ps) ++ x ≡ (q ++ records qs) ++ y = ap (λ (l : List ℕ). drop 5 l) same in
    let both : p ++ (records ps ++ x) ≡ q ++ (records qs ++ y) = sym (append_assoc p (records ps) x) ∙ after ∙ append_assoc q (records qs) y in
    let heads : p ≡ q = sym (take_at p (records ps ++ x) (length p) refl) ∙ ap (λ (l : List ℕ). take (length p) l) both ∙ take_at q (records qs ++ y) (length p) (sym long) in
    let rest : records ps ++ x ≡ records qs ++ y = sym (drop_at p (records ps ++ x) (length p) refl) ∙ ap (λ (l : List ℕ). drop (length p) l) both ∙ drop_at q (records qs ++ y) (length p) (sym long) in
    ⊎_elim
    (λ one. inl (record { more = one.more; is = λ i. sym heads i ∷ one.is i }))
    (λ two. inr (record { more = two.more; is = λ i. heads i ∷ two.is i }))
    (records-either ps qs x y all.1 all'.1 rest)

abbrev pub with_payloads : Header → List (List ℕ) → Contents
with_payloads header payloads = record { header = header; payloads = payloads }

module _ (header : Header) (file : List ℕ) where
  behind : (ps : List (List ℕ)) (begins : BeginsWith (with_payloads header ps) file) → drop (length (OPEN ∷ header_bytes header)) file ≡ records ps ++ begins.byte ∷ begins.rest
  behind ps begins =
      let head = OPEN ∷ header_bytes header in
      let more = begins.byte ∷ begins.rest in
      ap (λ (l : List ℕ). drop (length head) l) (begins.whole ∙ append_assoc head (records ps) more) ∙ drop_at head (records ps ++ more) (length head) refl

  pub begins-either : (ps qs : List (List ℕ)) → BeginsWith (with_payloads header ps) file → BeginsWith (with_payloads header qs) file → IsPrefix ps qs ⊎ IsPrefix qs ps
  begins-either ps qs one two =
      records-either ps qs (one.byte ∷ one.rest) (two.byte ∷ two.rest) one.fits.payloads two.fits.payloads (sym (behind ps one) ∙ behind qs two)

  -- the list of records ends after these payloads
  abbrev pub HasEnd : List (List ℕ) → Type 0
  HasEnd ps = StandsFor (with_payloads header ps) file ⊎ IsDamaged (with_payloads header ps) file

  end-of : (ps : List (List ℕ)) → HasEnd ps → IsEnd (length (front (with_payloads header ps))) file
  end-of ps (inl stands) = inl (λ opened. stands.shut (sym (get_or_at (front (with_payloads header ps)) stands.gate stands.free 0 (length (front (with_payloads header ps))) refl)
      ∙ sym (ap (λ (l : List ℕ). get_or l (length (front (with_payloads header ps))) 0) stands.whole) ∙ opened))
  end-of ps (inr damaged) = inr (damaged.open_gate, damaged.no_record)

  -- a record after the others
  record-after : (ps more : List (List ℕ)) (m : List ℕ) → BeginsWith (with_payloads header (ps ++ m ∷ more)) file → IsRecord m (length (front (with_payloads header ps))) file
  record-after ps more m begins =
      let head = OPEN ∷ header_bytes header in
      let x = with_payloads header ps in
      let rest = begins.byte ∷ begins.rest in
      let fits = begins.fits in
      let split : front (with_payloads header (ps ++ m ∷ more)) ≡ front x ++ records (m ∷ more) =
      ap (λ (l : List ℕ). head ++ l) (records-append ps (m ∷ more)) ∙ sym (append_assoc head (records ps) (records (m ∷ more))) in
      let whole : file ≡ (front x ++ records (m ∷ more)) ++ rest = begins.whole ∙ ap (λ (l : List ℕ). l ++ rest) split in
      let size : length (front (with_payloads header (ps ++ m ∷ more))) ≡ length (front x) + length (records (m ∷ more)) = ap length split ∙ length-append (front x) (records (m ∷ more)) in
      let chain = chain_of (front x) (m ∷ more) rest (length (front x)) refl (all-back ps (m ∷ more) fits.payloads) (omega arith) (omega (arith, size, fits.end)) in
      subst (λ (f : List ℕ). IsRecord m (length (front x)) f) (sym whole) chain.0
    where
      all-back : (ps qs : List (List ℕ)) → AllByRecursion IsPayload (ps ++ qs) → AllByRecursion IsPayload qs
      all-back [] qs all = all
      all-back (p ∷ ps) qs all = all-back ps qs all.1

  not-both : (m : List ℕ) (gate : ℕ) → IsRecord m gate file → IsEnd gate file → ⊥
  not-both m gate is (inl closed) = closed is.opened
  not-both m gate is (inr (opened, none)) =
      let fits : length m < 2 ^ 32 = omega (arith, is.short) in
      let value = ap (big_number 4) is.spelled ∙ read_back 4 (length m) fits in
      ⊎_elim (λ short. omega (arith, short, is.whole)) (λ more. ⊎_elim (λ long. omega (arith, long, value, is.short)) (λ past. ⊎_elim (λ beyond. omega (arith, beyond, value, is.whole)) (λ beyond. omega (arith, beyond, value, is.limit)) past) more) none

  -- with however many records a file begins, they begin the whole list
  pub begins-whole : (ps qs : List (List ℕ)) → HasEnd ps → BeginsWith (with_payloads header ps) file → BeginsWith (with_payloads header qs) file → IsPrefix qs ps
  begins-whole ps qs end whole begins = ⊎_elim (λ one. by one.more one.is) (λ two. two) (begins-either ps qs whole begins)
    where
      by : (more : List (List ℕ)) → qs ≡ ps ++ more → IsPrefix qs ps
      by [] is = record { more = []; is = sym (append-nil ps) ∙ sym is ∙ sym (append-nil qs) }
      by (m ∷ more) is = absurd (not-both m (length (front (with_payloads header ps))) (record-after ps more m (subst (λ (l : List (List ℕ)). BeginsWith (with_payloads header l) file) is begins)) (end-of ps end))
