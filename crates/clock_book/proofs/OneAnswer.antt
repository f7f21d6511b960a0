-- A file is read in one way.
use Rattle.std.proofs.Common.{◌≡◌, ◌⊎◌, inl, inr, ⊎_elim, ◌<◌, ◌≤◌, ℕ, zero, suc, ◌+◌, List, [], ◌∷◌, ◌++◌, length, get_or, map, take, drop, Bool, true, false, nat_eq, cond, Option, Some, None, Result, Ok, Err, refl, sym, ◌∙◌, ap, subst, arith, length-append, take-append-drop}
use Rattle.std.specs.List.{slice_get}
use Rattle.std.specs.Prelude.{MatchOption}
use Rattle.std.proofs.lemmas.List.{append-nil}
use Rattle.std.proofs.lemmas.Bool.{cases_lt}
use Rattle.demand_set.specs.declared.reports.Report.{Report}
use Rattle.clock.specs.Reports.{ClockHistory}
use Rattle.clock.specs.Judging.{judgement_of}
use Rattle.clock.specs.declared.judging.Judgement.{Judgement}
use Rattle.report_journal.specs.declared.headers.Header.{Header}
use Rattle.report_journal.specs.declared.spellings.TheConstants.{OPEN}
use Rattle.report_journal.specs.Format.{header_bytes, first_gate, StandsFor, IsDamaged, IsUnformed, HasNoHeader}
use Rattle.report_journal.specs.Fronts.{HasHeader}
use Rattle.report_journal.specs.Kinds.{Kind}
use Rattle.report_journal.specs.Kinds as kinds
use Rattle.report_journal.proofs.OneKind.{only_one}
use Rattle.report_journal.proofs.Prefixes.{one_header, header_length}
use Rattle.recovery.specs.declared.faults.JournalCause.{JournalCause}
use Rattle.recovery.specs.declared.faults.JournalCause.TheVariants as cause
use Rattle.recovery.specs.Entries.{payload_of, AreReportsOf}
use Rattle.recovery.specs.Journaled.{Owner, header_of, contents_of, BeginsWith}
use Rattle.recovery.specs.Causes.{IsFirstOther, IsHeaderCause}
use Rattle.recovery.proofs.Beginning.{begins-formed, begins-damaged, has-header}
use Rattle.clock_book.specs.declared.faults.OpenFault.{OpenFault}
use Rattle.clock_book.specs.declared.faults.OpenFault.TheVariants as why
use Rattle.clock_book.specs.Opening.{history_of, IsOpening}
use Rattle.clock_book.proofs.Chained.{IsPrefix, HasEnd, begins-either, begins-whole}
use Rattle.clock_book.proofs.Sequences.{before-last, lasts, reports-prefix, among, takes-within}
use Rattle.clock_book.proofs.Shapes.{Body, Whole, Damaged, NoReport, NotTaken, Head, Unformed, Headless, Other, IsSound, IsNone, IsRefused, IsBody, IsHead, body_answer, head_answer, HasBody, HasHead, shape-of}

none-more : {X : Type 0} (xs ys more : List X) → ys ≡ xs ++ more → length more ≡ 0 → ys ≡ xs
none-more xs ys [] is none = is ∙ append-nil xs
none-more xs ys (m ∷ more) is none = absurd (omega arith)

module _ (owner : Owner) (file : List ℕ) where
  abbrev header : Header
  header = header_of owner

  abbrev payloads : List Report → List (List ℕ)
  payloads reports = map (payload_of (length owner.terms.goods)) reports

  -- the reports of a list that has an end
  record IsListed (reports : List Report) : Type 0 where
    pub sound : IsSound owner reports
    pub end : HasEnd header file (payloads reports)
    pub begins : BeginsWith (contents_of owner reports) file

  listed-whole : (reports : List Report) → IsSound owner reports → StandsFor (contents_of owner reports) file → IsListed reports
  listed-whole reports sound stands = record { sound = sound; end = inl stands; begins = begins-formed (contents_of owner reports) file stands }

  listed-damaged : (reports : List Report) → IsSound owner reports → IsDamaged (contents_of owner reports) file → IsListed reports
  listed-damaged reports sound damaged = record { sound = sound; end = inr damaged; begins = begins-damaged (contents_of owner reports) file damaged }

  -- one that has an end has no record of no report
  listed-none : (xs ys : List Report) (p : List ℕ) → IsListed xs → IsNone owner ys p file → ⊥
  listed-none xs ys p listed none =
      let prefix = begins-whole header file (payloads xs) (payloads ys ++ p ∷ []) listed.end listed.begins none.begins in
      among owner.terms xs (payloads ys) p prefix.more listed.sound.are prefix.is none.none

  -- a report within legal reports is taken
  taken-within : (xs ys : List Report) (r : Report) (j : Judgement) → IsSound owner xs → IsRefused owner ys r j file → IsPrefix (ys ++ r ∷ []) xs → ⊥
  taken-within xs ys r j sound refused prefix = refused.refused (refused.judged ∙ takes-within (history_of owner []) xs ys r prefix.more sound.legal.takes prefix.is)

  listed-taken : (xs ys : List Report) (r : Report) (j : Judgement) → IsListed xs → IsRefused owner ys r j file → ⊥
  listed-taken xs ys r j listed refused =
      let prefix = begins-whole header file (payloads xs) (payloads (ys ++ r ∷ [])) listed.end listed.begins refused.begins.begins in
      taken-within xs ys r j listed.sound refused (reports-prefix owner.terms (ys ++ r ∷ []) xs prefix.more refused.begins.are listed.sound.are prefix.is)

  -- a payload of no report is not one of these
  none-prefix : (xs ys : List Report) (p : List ℕ) → AreReportsOf owner.terms ys → IsNone owner xs p file → IsPrefix (payloads xs ++ p ∷ []) (payloads ys) → ⊥
  none-prefix xs ys p are none prefix = among owner.terms ys (payloads xs) p prefix.more are prefix.is none.none

  none-taken : (xs ys : List Report) (p : List ℕ) (r : Report) (j : Judgement) → IsNone owner xs p file → IsRefused owner ys r j file → ⊥
  none-taken xs ys p r j none refused =
      let are = refused.begins.are in
      ⊎_elim (λ one. none-prefix xs (ys ++ r ∷ []) p are none one) (λ two. by two.more two.is)
      (begins-either header file (payloads xs ++ p ∷ []) (payloads (ys ++ r ∷ [])) none.begins refused.begins.begins)
    where
      by : (more : List (List ℕ)) → payloads xs ++ p ∷ [] ≡ payloads (ys ++ r ∷ []) ++ more → ⊥
      by [] is = none-prefix xs (ys ++ r ∷ []) p refused.begins.are none (record { more = []; is = sym (append-nil (payloads (ys ++ r ∷ []))) ∙ sym is ∙ sym (append-nil (payloads xs ++ p ∷ [])) })
      by (m ∷ more) is =
          let prefix = before-last (payloads xs) (payloads (ys ++ r ∷ [])) p m more is in
          taken-within xs ys r j none.sound refused (reports-prefix owner.terms (ys ++ r ∷ []) xs prefix.more refused.begins.are none.sound.are prefix.is)

  none-none : (xs ys : List Report) (p q : List ℕ) → IsNone owner xs p file → IsNone owner ys q file → length xs ≡ length ys
  none-none xs ys p q one two = ⊎_elim (λ first. by xs ys p q one two first.more first.is) (λ second. sym (by ys xs q p two one second.more second.is))
      (begins-either header file (payloads xs ++ p ∷ []) (payloads ys ++ q ∷ []) one.begins two.begins)
    where
      long : (zs : List Report) → length (payloads zs) ≡ length zs
      long [] = refl
      long (z ∷ zs) = ap (λ n. suc n) (long zs)

      by : (xs ys : List Report) (p q : List ℕ) → IsNone owner xs p file → IsNone owner ys q file → (more : List (List ℕ)) → payloads ys ++ q ∷ [] ≡ (payloads xs ++ p ∷ []) ++ more → length xs ≡ length ys
      by xs ys p q one two [] is =
          let n = ap length is in
          omega (arith, n, long xs, long ys, length-append (payloads ys) (q ∷ []), length-append (payloads xs ++ p ∷ []) [], length-append (payloads xs) (p ∷ []))
      by xs ys p q one two (m ∷ more) is = absurd (none-prefix xs ys p two.sound.are one (before-last (payloads ys) (payloads xs ++ p ∷ []) q m more is))

  -- two reports that are not taken are one
  record AreSame (xs ys : List Report) (r s : Report) : Type 0 where
    pub before : xs ≡ ys
    pub here : r ≡ s

  taken-taken : (xs ys : List Report) (r s : Report) (i j : Judgement) → IsRefused owner xs r i file → IsRefused owner ys s j file → AreSame xs ys r s
  taken-taken xs ys r s i j one two = ⊎_elim
      (λ first. let prefix = reports-prefix owner.terms (xs ++ r ∷ []) (ys ++ s ∷ []) first.more one.begins.are two.begins.are first.is in
      let same = by xs ys r s i j one two prefix.more prefix.is in record { before = sym same.before; here = sym same.here })
      (λ second. let prefix = reports-prefix owner.terms (ys ++ s ∷ []) (xs ++ r ∷ []) second.more two.begins.are one.begins.are second.is in
      by ys xs s r j i two one prefix.more prefix.is)
      (begins-either header file (payloads (xs ++ r ∷ [])) (payloads (ys ++ s ∷ [])) one.begins.begins two.begins.begins)
    where
      legal-sound : (ys : List Report) (s : Report) (j : Judgement) → IsRefused owner ys s j file → IsSound owner ys
      legal-sound ys s j two = record { legal = two.legal; are = front ys two.begins.are }
        where
          front : (ys : List Report) → AreReportsOf owner.terms (ys ++ s ∷ []) → AreReportsOf owner.terms ys
          front [] are = tt
          front (y ∷ ys) are = (are.0, front ys are.1)

      by : (xs ys : List Report) (r s : Report) (i j : Judgement) → IsRefused owner xs r i file → IsRefused owner ys s j file → (more : List Report) → ys ++ s ∷ [] ≡ (xs ++ r ∷ []) ++ more → AreSame ys xs s r
      by xs ys r s i j one two [] is = let last = lasts ys xs s r (is ∙ append-nil (xs ++ r ∷ [])) in record { before = last.0; here = last.1 }
      by xs ys r s i j one two (m ∷ more) is = absurd (taken-within ys xs r i (legal-sound ys s j two) one (before-last ys (xs ++ r ∷ []) s m more is))

  -- two lists that have an end are one
  listed-listed : (xs ys : List Report) → IsListed xs → IsListed ys → xs ≡ ys
  listed-listed xs ys one two =
      let a = begins-whole header file (payloads xs) (payloads ys) one.end one.begins two.begins in
      let b = begins-whole header file (payloads ys) (payloads xs) two.end two.begins one.begins in
      let p = reports-prefix owner.terms ys xs a.more two.sound.are one.sound.are a.is in
      let q = reports-prefix owner.terms xs ys b.more one.sound.are two.sound.are b.is in
      none-more ys xs p.more p.is (omega (arith, ap length p.is, ap length q.is, length-append ys p.more, length-append xs q.more))

  not-both : (xs ys : List Report) → StandsFor (contents_of owner xs) file → IsDamaged (contents_of owner ys) file → ⊥
  not-both xs ys stands damaged = let e = only_one file (kinds.Formed (contents_of owner xs)) (kinds.Damaged (contents_of owner ys)) stands damaged in cc

  one-body : (s t : Body) → IsBody owner file s → IsBody owner file t → body_answer owner s ≡ body_answer owner t
  one-body (Whole xs) (Whole ys) a b = ap (λ reports. Ok (history_of owner reports)) (listed-listed xs ys (listed-whole xs a.0 a.1) (listed-whole ys b.0 b.1))
  one-body (Whole xs) (Damaged ys) a b = absurd (not-both xs ys a.1 b.1)
  one-body (Whole xs) (NoReport ys q) a b = absurd (listed-none xs ys q (listed-whole xs a.0 a.1) b)
  one-body (Whole xs) (NotTaken ys s j) a b = absurd (listed-taken xs ys s j (listed-whole xs a.0 a.1) b)
  one-body (Damaged xs) (Whole ys) a b = absurd (not-both ys xs b.1 a.1)
  one-body (Damaged xs) (Damaged ys) a b = ap (λ reports. Err (why.Broken (record { number = length reports + 1; cause = cause.Damaged }))) (listed-listed xs ys (listed-damaged xs a.0 a.1) (listed-damaged ys b.0 b.1))
  one-body (Damaged xs) (NoReport ys q) a b = absurd (listed-none xs ys q (listed-damaged xs a.0 a.1) b)
  one-body (Damaged xs) (NotTaken ys s j) a b = absurd (listed-taken xs ys s j (listed-damaged xs a.0 a.1) b)
  one-body (NoReport xs p) (Whole ys) a b = absurd (listed-none ys xs p (listed-whole ys b.0 b.1) a)
  one-body (NoReport xs p) (Damaged ys) a b = absurd (listed-none ys xs p (listed-damaged ys b.0 b.1) a)
  one-body (NoReport xs p) (NoReport ys q) a b = ap (λ n. Err (why.Broken (record { number = n + 1; cause = cause.NotReport }))) (none-none xs ys p q a b)
  one-body (NoReport xs p) (NotTaken ys s j) a b = absurd (none-taken xs ys p s j a b)
  one-body (NotTaken xs r i) (Whole ys) a b = absurd (listed-taken ys xs r i (listed-whole ys b.0 b.1) a)
  one-body (NotTaken xs r i) (Damaged ys) a b = absurd (listed-taken ys xs r i (listed-damaged ys b.0 b.1) a)
  one-body (NotTaken xs r i) (NoReport ys q) a b = absurd (none-taken ys xs q r i b a)
  one-body (NotTaken xs r i) (NotTaken ys s j) a b =
      let same = taken-taken xs ys r s i j a b in
      let judged : i ≡ j = a.judged ∙ (λ k. judgement_of (history_of owner (same.before k)) (same.here k)) ∙ sym b.judged in
      λ k. Err (why.NotAcceptable (length (same.before k) + 1) (judged k))

  -- the bytes after a header
  record IsHeaded (h : Header) : Type 0 where
    pub byte : ℕ
    pub rest : List ℕ
    pub whole : file ≡ OPEN ∷ header_bytes h ++ byte ∷ rest

  headed : (h : Header) → HasHeader h file → IsHeaded h
  headed h has = by (drop (first_gate h) file) (some file (first_gate h) has.more) (sym (take-append-drop (first_gate h) file) ∙ ap (λ (l : List ℕ). l ++ drop (first_gate h) file) has.begins)
    where
      some : (l : List ℕ) (n : ℕ) → n + 1 ≤ length l → 1 ≤ length (drop n l)
      some l zero long = long
      some [] (suc n) long = absurd (omega arith)
      some (x ∷ l) (suc n) long = some l n (omega (arith, long))

      by : (rest : List ℕ) → 1 ≤ length rest → file ≡ (OPEN ∷ header_bytes h) ++ rest → IsHeaded h
      by [] long is = absurd (omega arith)
      by (byte ∷ rest) long is = record { byte = byte; rest = rest; whole = is }

  headed-formed : (h : Header) → HasHeader h file → IsUnformed file → ⊥
  headed-formed h has unformed =
      let split = headed h has in
      ⊎_elim (λ short. omega (arith, short, has.more, header_length h has.header)) (λ shut. shut (ap (λ (l : List ℕ). get_or l 0 0) split.whole)) unformed

  headed-headless : (h : Header) → HasHeader h file → HasNoHeader file → ⊥
  headed-headless h has none = let split = headed h has in none.none h split.byte split.rest has.header split.whole

  one-head-header : (h k : Header) → HasHeader h file → HasHeader k file → h ≡ k
  one-head-header h k one two =
      let a = headed h one in
      let b = headed k two in
      one_header h k (drop 1 file) (a.byte ∷ a.rest) (b.byte ∷ b.rest) one.header two.header (ap (λ (l : List ℕ). drop 1 l) a.whole) (ap (λ (l : List ℕ). drop 1 l) b.whole)

  body-header : (s : Body) → IsBody owner file s → HasHeader header file
  body-header (Whole xs) is = has-header (contents_of owner xs) file (begins-formed (contents_of owner xs) file is.1)
  body-header (Damaged xs) is = has-header (contents_of owner xs) file (begins-damaged (contents_of owner xs) file is.1)
  body-header (NoReport xs p) is = has-header (record { header = header; payloads = payloads xs ++ p ∷ [] }) file is.begins
  body-header (NotTaken xs r j) is = has-header (contents_of owner (xs ++ r ∷ [])) file is.begins.begins

-- the owner's header is not another one
first-differs : (xs : List ℕ) (place : ℕ) → IsFirstOther xs xs place → ⊥
first-differs xs place is = is.here refl

own-cause : (owner : Owner) (found : JournalCause) → IsHeaderCause owner (header_of owner) found → ⊥
own-cause owner (cause.OtherClock c) is = is.1 is.0
own-cause owner (cause.OtherAuction d) is = is.2 is.1
own-cause owner (cause.OtherVersion v) is = is.3 is.2
own-cause owner (cause.OtherOpening g) is = by (nat_eq owner.terms.version 1) is.3
  where
    by : (first : Bool) → MatchOption (cond first None (Some owner.terms.opening)) ⊥ (λ opening. IsFirstOther opening owner.terms.opening g) → ⊥
    by true is = is
    by false is = first-differs owner.terms.opening g is
own-cause owner cause.Damaged is = is
own-cause owner cause.NotReport is = is

get-take : (xs : List ℕ) (n k : ℕ) → k < n → slice_get (take n xs) k ≡ slice_get xs k
get-take xs zero k below = absurd (omega arith)
get-take [] (suc n) k below = refl
get-take (x ∷ xs) (suc n) zero below = refl
get-take (x ∷ xs) (suc n) (suc k) below = get-take xs n k (omega arith)

not-before : (xs ys : List ℕ) (g k : ℕ) → IsFirstOther xs ys g → IsFirstOther xs ys k → g < k → ⊥
not-before xs ys g k one two below = one.here (sym (get-take xs k g below) ∙ ap (λ (l : List ℕ). slice_get l g) two.before ∙ get-take ys k g below)

one-place : (o : Option (List ℕ)) (ys : List ℕ) (g k : ℕ) → MatchOption o ⊥ (λ xs. IsFirstOther xs ys g) → MatchOption o ⊥ (λ xs. IsFirstOther xs ys k) → g ≡ k
one-place None ys g k one two = absurd one
one-place (Some xs) ys g k one two = elim (cases_lt g k) [
  | inl less ↦ absurd (not-before xs ys g k one two less)
  | inr more ↦ elim (cases_lt k g) [
    | inl less ↦ absurd (not-before xs ys k g two one less)
    | inr same ↦ omega (arith, more, same)
  ]
]

-- a header is another one for one cause
one-cause : (owner : Owner) (h : Header) (v w : JournalCause) → IsHeaderCause owner h v → IsHeaderCause owner h w → v ≡ w
one-cause owner h (cause.OtherClock c) (cause.OtherClock d) a b = ap cause.OtherClock (a.0 ∙ sym b.0)
one-cause owner h (cause.OtherClock c) (cause.OtherAuction d) a b = absurd (a.1 (a.0 ∙ b.0))
one-cause owner h (cause.OtherClock c) (cause.OtherVersion d) a b = absurd (a.1 (a.0 ∙ b.0))
one-cause owner h (cause.OtherClock c) (cause.OtherOpening d) a b = absurd (a.1 (a.0 ∙ b.0))
one-cause owner h (cause.OtherAuction c) (cause.OtherClock d) a b = absurd (b.1 (b.0 ∙ a.0))
one-cause owner h (cause.OtherAuction c) (cause.OtherAuction d) a b = ap cause.OtherAuction (a.1 ∙ sym b.1)
one-cause owner h (cause.OtherAuction c) (cause.OtherVersion d) a b = absurd (a.2 (a.1 ∙ b.1))
one-cause owner h (cause.OtherAuction c) (cause.OtherOpening d) a b = absurd (a.2 (a.1 ∙ b.1))
one-cause owner h (cause.OtherVersion c) (cause.OtherClock d) a b = absurd (b.1 (b.0 ∙ a.0))
one-cause owner h (cause.OtherVersion c) (cause.OtherAuction d) a b = absurd (b.2 (b.1 ∙ a.1))
one-cause owner h (cause.OtherVersion c) (cause.OtherVersion d) a b = ap cause.OtherVersion (a.2 ∙ sym b.2)
one-cause owner h (cause.OtherVersion c) (cause.OtherOpening d) a b = absurd (a.3 (a.2 ∙ b.2))
one-cause owner h (cause.OtherOpening c) (cause.OtherClock d) a b = absurd (b.1 (b.0 ∙ a.0))
one-cause owner h (cause.OtherOpening c) (cause.OtherAuction d) a b = absurd (b.2 (b.1 ∙ a.1))
one-cause owner h (cause.OtherOpening c) (cause.OtherVersion d) a b = absurd (b.3 (b.2 ∙ a.2))
one-cause owner h (cause.OtherOpening c) (cause.OtherOpening d) a b = ap cause.OtherOpening (one-place h.opening owner.terms.opening c d a.3 b.3)
one-cause owner h (cause.OtherClock c) cause.Damaged a b = absurd b
one-cause owner h (cause.OtherAuction c) cause.Damaged a b = absurd b
one-cause owner h (cause.OtherVersion c) cause.Damaged a b = absurd b
one-cause owner h (cause.OtherOpening c) cause.Damaged a b = absurd b
one-cause owner h (cause.OtherClock c) cause.NotReport a b = absurd b
one-cause owner h (cause.OtherAuction c) cause.NotReport a b = absurd b
one-cause owner h (cause.OtherVersion c) cause.NotReport a b = absurd b
one-cause owner h (cause.OtherOpening c) cause.NotReport a b = absurd b
one-cause owner h cause.Damaged w a b = absurd a
one-cause owner h cause.NotReport w a b = absurd a

one-head : (owner : Owner) (file : List ℕ) (s t : Head) → IsHead owner file s → IsHead owner file t → head_answer owner s ≡ head_answer owner t
one-head owner file Unformed Unformed a b = refl
one-head owner file Unformed Headless a b = absurd (b.formed a)
one-head owner file Unformed (Other k w) a b = absurd (headed-formed owner file k b.0 a)
one-head owner file Headless Unformed a b = absurd (a.formed b)
one-head owner file Headless Headless a b = refl
one-head owner file Headless (Other k w) a b = absurd (headed-headless owner file k b.0 a)
one-head owner file (Other h v) Unformed a b = absurd (headed-formed owner file h a.0 b)
one-head owner file (Other h v) Headless a b = absurd (headed-headless owner file h a.0 b)
one-head owner file (Other h v) (Other k w) a b =
    let same : h ≡ k = one-head-header owner file h k a.0 b.0 in
    let found : v ≡ w = one-cause owner k v w (subst (λ (x : Header). IsHeaderCause owner x v) same a.1) b.1 in
    ap (λ c. Err (why.Broken (record { number = 0; cause = c }))) found

clash : (owner : Owner) (file : List ℕ) (s : Head) (t : Body) → IsHead owner file s → IsBody owner file t → ⊥
clash owner file Unformed t a b = headed-formed owner file (header_of owner) (body-header owner file t b) a
clash owner file Headless t a b = headed-headless owner file (header_of owner) (body-header owner file t b) a
clash owner file (Other h v) t a b =
    let same : h ≡ header_of owner = one-head-header owner file h (header_of owner) a.0 (body-header owner file t b) in
    own-cause owner v (subst (λ (x : Header). IsHeaderCause owner x v) same a.1)

pub one-answer : (owner : Owner) (file : List ℕ) (one other : Result ClockHistory OpenFault) → IsOpening owner file one → IsOpening owner file other → one ≡ other
one-answer owner file one other is is' = by (shape-of owner file one is) (shape-of owner file other is')
  where
    by : HasHead owner file one ⊎ HasBody owner file one → HasHead owner file other ⊎ HasBody owner file other → one ≡ other
    by (inl a) (inl b) = a.answer_is ∙ one-head owner file a.head b.head a.is b.is ∙ sym b.answer_is
    by (inl a) (inr b) = absurd (clash owner file a.head b.body a.is b.is)
    by (inr a) (inl b) = absurd (clash owner file b.head a.body b.is a.is)
    by (inr a) (inr b) = a.answer_is ∙ one-body owner file a.body b.body a.is b.is ∙ sym b.answer_is
