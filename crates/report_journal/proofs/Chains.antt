-- The records of a file, gate by gate, are the only ones that it can be read as.
use Rattle.std.proofs.Common.{◌≡◌, ◌≢◌, ◌⊎◌, inl, inr, ⊎_elim, ℕ, ◌+◌, ◌^◌, ◌<◌, ◌≤◌, List, [], ◌∷◌, ◌++◌, length, get_or, take, drop, refl, sym, ◌∙◌, ap, subst, arith, append_assoc, length-append}
use Rattle.std.proofs.lemmas.List.{take_at, drop_at, get_or_at}
use Rattle.byte_numbers.specs.Spelling.{big_bytes, big_number}
use Rattle.byte_numbers.proofs.Spelled.{read_back}
use Rattle.std.specs.List.{AllByRecursion}
use Rattle.lot_base.specs.declared.limits.TheConstants.{GREATEST_PAYLOAD, GREATEST_FILE}
use Rattle.report_journal.specs.declared.spellings.TheConstants.{OPEN}
use Rattle.report_journal.specs.Format.{records, body, IsPayload, length_at, HasNoRecord}

-- a record with this payload stands at this open gate
pub record IsRecord (payload : List ℕ) (gate : ℕ) (file : List ℕ) : Type 0 where
  pub opened : get_or file gate 0 ≡ OPEN
  pub spelled : length_at file gate ≡ big_bytes 4 (length payload)
  pub bytes : take (length payload) (drop (gate + 5) file) ≡ payload
  pub short : length payload ≤ GREATEST_PAYLOAD
  pub whole : gate + 6 + length payload ≤ length file
  pub limit : gate + 6 + length payload ≤ GREATEST_FILE

-- the list of records ends here: at a closed gate, or at an open one with no record
abbrev pub IsEnd : ℕ → List ℕ → Type 0
IsEnd gate file = (get_or file gate 0 ≢ OPEN) ⊎ ((get_or file gate 0 ≡ OPEN) × HasNoRecord file gate)

-- these records follow one another from this gate to that end
abbrev pub IsChain : List ℕ → ℕ → List (List ℕ) → ℕ → Type 0
IsChain file gate [] end = gate ≡ end
IsChain file gate (payload ∷ payloads) end = IsRecord payload gate file × IsChain file (gate + 5 + length payload) payloads end

value_is : (payload : List ℕ) (gate : ℕ) (file : List ℕ) → IsRecord payload gate file → big_number 4 (length_at file gate) ≡ length payload
value_is payload gate file is =
    ap (big_number 4) is.spelled ∙ read_back 4 (length payload) (let fits : length payload < 2 ^ 32 = omega (arith, is.short) in fits)

not_both : (payload : List ℕ) (gate : ℕ) (file : List ℕ) → IsRecord payload gate file → IsEnd gate file → ⊥
not_both payload gate file is (inl closed) = closed is.opened
not_both payload gate file is (inr (opened, none)) =
    let value = value_is payload gate file is in
    ⊎_elim (λ short. omega (arith, short, is.whole)) (λ more. ⊎_elim (λ long. omega (arith, long, value, is.short)) (λ past. ⊎_elim (λ beyond. omega (arith, beyond, value, is.whole)) (λ beyond. omega (arith, beyond, value, is.limit)) past) more) none

same_payload : (p q : List ℕ) (gate : ℕ) (file : List ℕ) → IsRecord p gate file → IsRecord q gate file → p ≡ q
same_payload p q gate file is other =
    let long : length p ≡ length q = sym (value_is p gate file is) ∙ value_is q gate file other in
    sym is.bytes ∙ ap (λ (k : ℕ). take k (drop (gate + 5) file)) long ∙ other.bytes

-- two chains from one gate are the same
pub one_chain : (file : List ℕ) (ps qs : List (List ℕ)) (gate end other : ℕ) → IsChain file gate ps end → IsEnd end file → IsChain file gate qs other → IsEnd other file → ps ≡ qs
one_chain file [] [] gate end other chain ends chain' ends' = refl
one_chain file [] (q ∷ qs) gate end other chain ends chain' ends' = absurd (not_both q gate file chain'.0 (let P : ℕ → Type 0 = λ k. IsEnd k file in subst P (sym chain) ends))
one_chain file (p ∷ ps) [] gate end other chain ends chain' ends' = absurd (not_both p gate file chain.0 (let P : ℕ → Type 0 = λ k. IsEnd k file in subst P (sym chain') ends'))
one_chain file (p ∷ ps) (q ∷ qs) gate end other chain ends chain' ends' =
    let same : p ≡ q = same_payload p q gate file chain.0 chain'.0 in
    let P : List ℕ → Type 0 = λ l. IsChain file (gate + 5 + length l) ps end in
    let rest : ps ≡ qs = one_chain file ps qs (gate + 5 + length q) end other (subst P same chain.1) ends chain'.1 ends' in
    λ i. same i ∷ rest i

-- a record in a file of three parts
module _ (pre payload more : List ℕ) (gate : ℕ) (is : length pre ≡ gate) (short : length payload ≤ GREATEST_PAYLOAD) (some : 1 ≤ length more) (limit : gate + 6 + length payload ≤ GREATEST_FILE) where
  abbrev size : List ℕ
  size = big_bytes 4 (length payload)

  abbrev file : List ℕ
  file = pre ++ OPEN ∷ body payload ++ more

  by_gate : file ≡ (pre ++ OPEN ∷ []) ++ (size ++ (payload ++ more))
  by_gate = simp append_assoc

  by_size : file ≡ (pre ++ OPEN ∷ size) ++ (payload ++ more)
  by_size = simp append_assoc

  pub record_at : IsRecord payload gate file
  record_at = record {
    opened = ap (λ (l : List ℕ). get_or l gate 0) (append_assoc pre (OPEN ∷ body payload) more) ∙ get_or_at pre OPEN (body payload ++ more) 0 gate is;
    spelled =
        ap (λ (l : List ℕ). take 4 (drop (gate + 1) l)) by_gate
        ∙ ap (λ (l : List ℕ). take 4 l) (drop_at (pre ++ OPEN ∷ []) (size ++ (payload ++ more)) (gate + 1) (omega (arith, is, length-append pre (OPEN ∷ []))))
        ∙ take_at size (payload ++ more) 4 refl;
    bytes =
        ap (λ (l : List ℕ). take (length payload) (drop (gate + 5) l)) by_size
        ∙ ap (λ (l : List ℕ). take (length payload) l) (drop_at (pre ++ OPEN ∷ size) (payload ++ more) (gate + 5) (omega (arith, is, length-append pre (OPEN ∷ size))))
        ∙ take_at payload more (length payload) refl;
    short = short;
    whole = omega (arith, is, some, ap length by_size, length-append (pre ++ OPEN ∷ size) (payload ++ more), length-append pre (OPEN ∷ size), length-append payload more);
    limit = limit;
  }

regroup : (pre one others more : List ℕ) → pre ++ (one ++ others) ++ more ≡ pre ++ one ++ (others ++ more)
regroup pre one others more = simp append_assoc

regroup_on : (pre one others more : List ℕ) → pre ++ (one ++ others) ++ more ≡ (pre ++ one) ++ others ++ more
regroup_on pre one others more = simp append_assoc

-- a file with these records in its midst
pub chain_of : (pre : List ℕ) (payloads : List (List ℕ)) (more : List ℕ) (gate : ℕ) → length pre ≡ gate → AllByRecursion IsPayload payloads → 1 ≤ length more
    → gate + length (records payloads) + 1 ≤ GREATEST_FILE → IsChain (pre ++ records payloads ++ more) gate payloads (gate + length (records payloads))
chain_of pre [] more gate is all some limit = omega arith
chain_of pre (p ∷ payloads) more gate is all some limit =
    let sizes : length (records (p ∷ payloads)) ≡ 5 + length p + length (records payloads) =
    omega (arith, length-append (OPEN ∷ body p) (records payloads), length-append (big_bytes 4 (length p)) p) in
    let next = pre ++ OPEN ∷ body p in
    let next_is : length next ≡ gate + 5 + length p = omega (arith, is, length-append pre (OPEN ∷ body p), length-append (big_bytes 4 (length p)) p) in
    let here = record_at pre p (records payloads ++ more) gate is all.0 (omega (arith, some, length-append (records payloads) more)) (omega (arith, limit, sizes)) in
    let rest = chain_of next payloads more (gate + 5 + length p) next_is all.1 some (omega (arith, limit, sizes)) in
    let end_is : (gate + 5 + length p) + length (records payloads) ≡ gate + length (records (p ∷ payloads)) = omega (arith, sizes) in
    let P : List ℕ → Type 0 = λ f. IsRecord p gate f in
    let Q : List ℕ → Type 0 = λ f. IsChain f (gate + 5 + length p) payloads ((gate + 5 + length p) + length (records payloads)) in
    let R : ℕ → Type 0 = λ e. IsChain (pre ++ records (p ∷ payloads) ++ more) (gate + 5 + length p) payloads e in
    (subst P (sym (regroup pre (OPEN ∷ body p) (records payloads) more)) here, subst R end_is (subst Q (sym (regroup_on pre (OPEN ∷ body p) (records payloads) more)) rest))
