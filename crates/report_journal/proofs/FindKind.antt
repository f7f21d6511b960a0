-- Each file is of some kind: its header is read, and then its gates until one ends the list.
use Rattle.std.proofs.Common.{◌≡◌, ◌⊎◌, inl, inr, ⊎_elim, ℕ, zero, suc, ◌+◌, ◌-◌, ◌*◌, ◌^◌, ◌<◌, ◌≤◌, min, List, [], ◌∷◌, ◌++◌, length, get_or, take, drop, refl, sym, ◌∙◌, ap, subst, arith, length-drop, lit<}
use Rattle.std.proofs.lemmas.Bool.{cases_lt, cases_eq}
use Rattle.std.proofs.lemmas.List.{length-take-le, get_or-take, get_or-drop, get_or_past}
use Rattle.std.proofs.Math.Seq.{take-add}
use Rattle.byte_numbers.specs.Spelling.{big_bytes, big_number}
use Rattle.byte_numbers.proofs.Spelled.{same_bytes}
use Rattle.std.specs.List.{AllByRecursion, flat_map}
use Rattle.lot_base.specs.declared.limits.TheConstants.{GREATEST_PAYLOAD, GREATEST_FILE, MOST_GOODS}
use Rattle.report_journal.specs.declared.spellings.TheConstants.{OPEN, SHORTEST_FORMED}
use Rattle.report_journal.specs.declared.headers.Header.{Header}
use Rattle.report_journal.specs.declared.places.Place.{Place}
use Rattle.report_journal.specs.declared.heads.Next.TheVariants.{Record}
use Rattle.report_journal.specs.Format.{first_name, second_name, first_gate, length_at, HasNoRecord}
use Rattle.report_journal.specs.Fronts.{OpensWith, BeginsWith, HasHeader}
use Rattle.report_journal.specs.Journals.{said}
use Rattle.report_journal.specs.Kinds.{Kind, Unformed, Formed, Damaged, Headless, IsOfKind, AreBytes, IsJust}
use Rattle.report_journal.specs.Scans.{IsNext, AreRead}
use Rattle.report_journal.proofs.Gates.{read_start, read_more, stands, damaged}
use Rattle.report_journal.proofs.OneKind.{only_one}
use Rattle.report_journal.proofs.Prefixes.{opened, opens, first, second, none, headed, headless, bytes_length, header_within}

abbrev HasKind : List ℕ → Type 0
HasKind file = (kind : Kind) × IsOfKind kind file

same_or_other : (xs ys : List ℕ) → (xs ≡ ys) ⊎ (xs ≡ ys → ⊥)
same_or_other [] [] = inl refl
same_or_other [] (y ∷ ys) = inr (λ e. cc e)
same_or_other (x ∷ xs) [] = inr (λ e. cc e)
same_or_other (x ∷ xs) (y ∷ ys) = elim (cases_eq x y) [
  | inl same ↦ elim (same_or_other xs ys) [
    | inl rest ↦ inl (λ i. same i ∷ rest i)
    | inr other ↦ inr (λ e. other (ap (λ (l : List ℕ). drop 1 l) e))
  ]
  | inr other ↦ inr (λ e. other (ap (λ (l : List ℕ). get_or l 0 0) e))
]

at_most : (n : ℕ) (l : List ℕ) → length (take n l) ≤ n
at_most zero l = omega arith
at_most (suc n) [] = omega arith
at_most (suc n) (x ∷ l) = omega (arith, at_most n l)

-- four bytes at an offset spell a number and are spelled by it
bytes_at : (file : List ℕ) → AreBytes file → (at i : ℕ) → get_or (take 4 (drop at file)) i 0 < 256
bytes_at file are_bytes at i = elim (cases_lt i 4) [
  | inl less ↦ subst (λ (b : ℕ). b < 256) (sym (get_or-take 4 (drop at file) i 0 less ∙ get_or-drop at file i 0)) (are_bytes (at + i))
  | inr more ↦ subst (λ (b : ℕ). b < 256) (sym (get_or_past (take 4 (drop at file)) i 0 (omega (arith, more, at_most 4 (drop at file))))) (lit< tt)
]

spelled_at : (file : List ℕ) → AreBytes file → (at : ℕ) → at + 4 ≤ length file → big_bytes 4 (big_number 4 (take 4 (drop at file))) ≡ take 4 (drop at file)
spelled_at file are_bytes at long = same_bytes 4 (take 4 (drop at file)) (big_number 4 (take 4 (drop at file))) (length-take-le 4 (drop at file) (omega (arith, length-drop at file, long))) (bytes_at file are_bytes at) refl

fits_at : (file : List ℕ) → AreBytes file → (at : ℕ) → big_number 4 (take 4 (drop at file)) < 2 ^ 32
fits_at file are_bytes at = omega (arith, bytes_at file are_bytes at 0, bytes_at file are_bytes at 1, bytes_at file are_bytes at 2, bytes_at file are_bytes at 3)

drop_bytes : (n : ℕ) (file : List ℕ) → AreBytes file → AreBytes (drop n file)
drop_bytes n file are_bytes i = subst (λ (b : ℕ). b < 256) (sym (get_or-drop n file i 0)) (are_bytes (n + i))

take_bytes : (n : ℕ) (file : List ℕ) → AreBytes file → AreBytes (take n file)
take_bytes n file are_bytes i = elim (cases_lt i n) [
  | inl less ↦ subst (λ (b : ℕ). b < 256) (sym (get_or-take n file i 0 less)) (are_bytes i)
  | inr more ↦ subst (λ (b : ℕ). b < 256) (sym (get_or_past (take n file) i 0 (omega (arith, more, short n file)))) (lit< tt)
]
  where
    short : (n : ℕ) (l : List ℕ) → length (take n l) ≤ n
    short n l = at_most n l

-- the numbers that so many times four bytes spell
record Numbers (n : ℕ) (bytes : List ℕ) : Type 0 where
  pub numbers : List ℕ
  pub count : length numbers ≡ n
  pub fit : AllByRecursion (λ price. price < 2 ^ 32) numbers
  pub spelled : flat_map (big_bytes 4) numbers ≡ take (4 * n) bytes

numbers_in : (n : ℕ) (bytes : List ℕ) → AreBytes bytes → 4 * n ≤ length bytes → Numbers n bytes
numbers_in zero bytes are_bytes long = record { numbers = []; count = refl; fit = tt; spelled = refl }
numbers_in (suc n) bytes are_bytes long =
    let x = big_number 4 (take 4 (drop 0 bytes)) in
    let rest = numbers_in n (drop 4 bytes) (drop_bytes 4 bytes are_bytes) (omega (arith, length-drop 4 bytes, long)) in
    let e : 4 * suc n ≡ 4 + 4 * n = omega arith in
    record {
      numbers = x ∷ rest.numbers;
      count = omega (arith, rest.count);
      fit = (fits_at bytes are_bytes 0, rest.fit);
      spelled = (λ i. spelled_at bytes are_bytes 0 (omega (arith, long)) i ++ rest.spelled i) ∙ sym (take-add 4 (4 * n) bytes) ∙ ap (λ (k : ℕ). take k bytes) (sym e);
    }

record Opening (bytes : List ℕ) : Type 0 where
  pub prices : List ℕ
  pub opens_with : OpensWith prices bytes

opening_of : (bytes : List ℕ) → AreBytes bytes → Opening bytes ⊎ ((prices : List ℕ) → OpensWith prices bytes → ⊥)
opening_of bytes are_bytes =
    let n = get_or bytes 1 0 in
    elim (cases_eq (get_or bytes 0 0) 2) [
      | inr other ↦ inr (λ prices is. other (opened prices bytes is).mark)
      | inl mark ↦ elim (cases_lt (length bytes) (3 + 4 * n)) [
        | inl short ↦ inr (λ prices is. omega (arith, short, (opened prices bytes is).count, (opened prices bytes is).long))
        | inr long ↦ elim (cases_lt n 1) [
          | inl zero_goods ↦ inr (λ prices is. omega (arith, zero_goods, (opened prices bytes is).count, is.some))
          | inr some ↦ elim (cases_lt MOST_GOODS n) [
            | inl many ↦ inr (λ prices is. omega (arith, many, (opened prices bytes is).count, is.few))
            | inr few ↦ inl (there mark long some few)
          ]
        ]
      ]
    ]
  where
    there : get_or bytes 0 0 ≡ 2 → 3 + 4 * get_or bytes 1 0 ≤ length bytes → 1 ≤ get_or bytes 1 0 → get_or bytes 1 0 ≤ MOST_GOODS → Opening bytes
    there mark long some few =
        let n = get_or bytes 1 0 in
        let found = numbers_in n (drop 2 bytes) (drop_bytes 2 bytes are_bytes) (omega (arith, length-drop 2 bytes, long)) in
        record {
          prices = found.numbers;
          opens_with = opens found.numbers bytes (omega (arith, found.count, some)) (omega (arith, found.count, few)) found.fit
              (record { mark = mark; count = sym found.count; long = omega (arith, found.count, long) })
              (found.spelled ∙ ap (λ (k : ℕ). take (4 * k) (drop 2 bytes)) (sym found.count));
        }

record Headed (bytes : List ℕ) : Type 0 where
  pub header : Header
  pub begins_with : BeginsWith header bytes

header_of : (bytes : List ℕ) → AreBytes bytes → SHORTEST_FORMED ≤ length bytes + 1 → Headed bytes ⊎ ((h : Header) → BeginsWith h bytes → ⊥)
header_of bytes are_bytes long =
    let clock = big_number 4 (take 4 (drop 4 bytes)) in
    let digest = take 32 (drop 8 bytes) in
    let fits = fits_at bytes are_bytes 4 in
    let spelled = spelled_at bytes are_bytes 4 (omega (arith, long)) in
    elim (same_or_other (take 4 bytes) first_name) [
      | inl named ↦ inl (record { header = _; begins_with = first bytes long clock digest fits spelled refl named })
      | inr not_first ↦ elim (same_or_other (take 4 bytes) second_name) [
        | inr not_second ↦ inr (none bytes not_first (λ named prices is. not_second named))
        | inl named ↦ elim (opening_of (drop 40 bytes) (drop_bytes 40 bytes are_bytes)) [
          | inl found ↦ inl (record { header = _; begins_with = second bytes long clock digest fits spelled refl found.prices named found.opens_with })
          | inr unopened ↦ inr (none bytes not_first (λ named prices is. unopened prices is))
        ]
      ]
    ]

-- what stands at an open gate: no record, or one of this length
record IsThere (n gate : ℕ) (file : List ℕ) : Type 0 where
  pub next : IsNext (Record n) gate file
  pub short : n ≤ GREATEST_PAYLOAD
  pub limit : gate + 6 + n ≤ GREATEST_FILE

module _ (file : List ℕ) (are_bytes : AreBytes file) where
  at_gate : (gate : ℕ) → get_or file gate 0 ≡ OPEN → HasNoRecord file gate ⊎ IsThere (big_number 4 (length_at file gate)) gate file
  at_gate gate opened =
      let n = big_number 4 (length_at file gate) in
      elim (cases_lt (length file) (gate + 5)) [
        | inl short ↦ inl (inl short)
        | inr long ↦ elim (cases_lt GREATEST_PAYLOAD n) [
          | inl great ↦ inl (inr (inl great))
          | inr fits ↦ elim (cases_lt (length file) (gate + 6 + n)) [
            | inl past ↦ inl (inr (inr (inl past)))
            | inr within ↦ elim (cases_lt GREATEST_FILE (gate + 6 + n)) [
              | inl beyond ↦ inl (inr (inr (inr beyond)))
              | inr limit ↦ inr (record { next = (opened, sym (spelled_at file are_bytes (gate + 1) (omega (arith, long))), within); short = fits; limit = limit })
            ]
          ]
        ]
      ]

  module _ (h : Header) (has : HasHeader h file) where
    -- one gate after another; each record takes a byte at least
    from_gate : (fuel : ℕ) (places : List Place) (gate : ℕ) → AreRead (first_gate h) places gate file → gate + 1 ≤ GREATEST_FILE → length file ≤ fuel + gate → HasKind file
    from_gate zero places gate are limit enough = absurd (omega (arith, enough, are.within))
    from_gate (suc fuel) places gate are limit enough = elim (cases_eq (get_or file gate 0) OPEN) [
      | inr closed ↦ (Formed (said h places file), stands file h has places gate are limit closed)
      | inl open_gate ↦ ⊎_elim
          (λ none. (Damaged (said h places file), damaged file h has places gate are limit open_gate none))
          (λ there.
          let n = big_number 4 (length_at file gate) in
          from_gate fuel (places ++ record { at = gate + 5; length = n } ∷ []) (gate + 5 + n) (read_more (first_gate h) places gate n file are there.next there.short) (omega (arith, there.limit)) (omega (arith, enough)))
          (at_gate gate open_gate)
    ]

  pub kind_of : HasKind file
  kind_of = elim (cases_lt (length file) SHORTEST_FORMED) [
    | inl short ↦ (Unformed, inl short)
    | inr big ↦ elim (cases_eq (get_or file 0 0) OPEN) [
      | inr shut ↦ (Unformed, inr shut)
      | inl is_open ↦ by_header big is_open
    ]
  ]
    where
      by_header : SHORTEST_FORMED ≤ length file → get_or file 0 0 ≡ OPEN → HasKind file
      by_header big is_open =
          let count = min 68 (length file) in
          let long : SHORTEST_FORMED ≤ count = omega (arith, big) in
          let size = bytes_length file file count refl refl long is_open in
          elim (header_of (take (count - 1) (drop 1 file)) (take_bytes (count - 1) (drop 1 file) (drop_bytes 1 file are_bytes)) (omega (arith, size, long))) [
            | inl found ↦
                let has = headed file file count refl refl long is_open found.header found.begins_with in
                from_gate found.header has (length file) [] (first_gate found.header) (read_start file (first_gate found.header) has.more) (omega (arith, header_within found.header has.header)) (omega arith)
            | inr unspelled ↦ (Headless, headless file file count refl refl long is_open unspelled)
          ]

pub one_kind : (file : List ℕ) → AreBytes file → (kind : Kind) × IsJust kind file
one_kind file are_bytes =
    let found = kind_of file are_bytes in
    (found.0, record { has = found.1; only = λ other is. only_one file found.0 other found.1 is })
