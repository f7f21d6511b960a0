-- Where the payloads of a journal lie.
use Rattle.std.proofs.Common.{◌≡◌, ◌≢◌, ◌↔◌, Bool, true, false, IsTrue, get_or, inl, inr, ⊎_elim, ℕ, ◌+◌, ◌≤◌, List, [], ◌∷◌, ◌++◌, length, take, drop, Option, Some, None, refl, sym, ◌∙◌, ap, subst, arith, append_assoc, length-append}
use Rattle.std.proofs.lemmas.List.{take_at, drop_at, get_or_at}
use Rattle.byte_numbers.specs.Spelling.{big_bytes}
use Rattle.house_io.specs.Moments.{Moment, Moments, Leaves, AtEach, Torn, IsSettled, settled, synced_at}
use Rattle.std.specs.List.{AllByRecursion}
use Rattle.house_io.proofs.Moments.{at_start, at_next, at_both, at_weaker, at_now, leaves_settled}
use Rattle.report_journal.specs.Format.{Contents, header_bytes, first_gate, body, records, front, IsPayload, StandsFor, Fits}
use Rattle.lot_base.specs.declared.limits.TheConstants.{GREATEST_PAYLOAD, GREATEST_FILE}
use Rattle.report_journal.specs.declared.spellings.TheConstants.{OPEN}
use Rattle.report_journal.specs.declared.headers.Header.{Header}
use Rattle.report_journal.specs.Calls.{MendLeaves}
use Rattle.report_journal.specs.Puts.{Takes, with_one_more, IsBeforeOrAfter, IsSynced, IsReopened}
use Rattle.report_journal.specs.Journals.{said, payload_at, payloads_at, ArePlaced, Stands, IsKept, LiesAhead}
use Rattle.report_journal.specs.declared.places.Place.{Place}
use Rattle.report_journal.proofs.Records.{front-push}
use Rattle.report_journal.proofs.Spans.{at_rest}
use Rattle.report_journal.proofs.Reopened.{torn_gate}

regroup : (pre size payload more : List ℕ) → pre ++ (OPEN ∷ size ++ payload) ++ more ≡ (pre ++ OPEN ∷ size) ++ payload ++ more
regroup pre size payload more = ap (λ (l : List ℕ). l ++ more) (sym (append_assoc pre (OPEN ∷ size) payload))

-- a payload lies five bytes after its gate
one_at : (pre payload more : List ℕ) (gate : ℕ) (place : Place) → length pre ≡ gate → place.at ≡ gate + 5 → place.length ≡ length payload
    → payload_at (pre ++ OPEN ∷ body payload ++ more) place ≡ payload
one_at pre payload more gate place is at long =
    let before = pre ++ OPEN ∷ big_bytes 4 (length payload) in
    let size : length before ≡ place.at = omega (arith, length-append pre (OPEN ∷ big_bytes 4 (length payload)), is, at) in
    let split : pre ++ OPEN ∷ body payload ++ more ≡ before ++ payload ++ more = grouped in
    ap (λ (l : List ℕ). take place.length (drop place.at l)) (split ∙ append_assoc before payload more)
    ∙ ap (λ (l : List ℕ). take place.length l) (drop_at before (payload ++ more) place.at size)
    ∙ take_at payload more place.length (sym long)
  where
    grouped : pre ++ OPEN ∷ body payload ++ more ≡ (pre ++ OPEN ∷ big_bytes 4 (length payload)) ++ payload ++ more
    grouped = regroup pre (big_bytes 4 (length payload)) payload more

first_is : (pre one others more : List ℕ) → pre ++ (one ++ others) ++ more ≡ pre ++ one ++ (others ++ more)
first_is pre one others more = simp append_assoc

rest_is : (pre one others more : List ℕ) → pre ++ (one ++ others) ++ more ≡ (pre ++ one) ++ others ++ more
rest_is pre one others more = simp append_assoc

placed : (places : List Place) (payloads : List (List ℕ)) (pre more : List ℕ) (gate : ℕ) → length pre ≡ gate → ArePlaced gate places payloads
    → payloads_at (pre ++ records payloads ++ more) places ≡ payloads
placed [] [] pre more gate is are = refl
placed [] (payload ∷ payloads) pre more gate is are = absurd are
placed (place ∷ places) [] pre more gate is are = absurd are
placed (place ∷ places) (payload ∷ payloads) pre more gate is are =
    let next = pre ++ OPEN ∷ body payload in
    let size : length next ≡ gate + 5 + length payload = omega (arith, length-append pre (OPEN ∷ body payload), length-append (big_bytes 4 (length payload)) payload, is) in
    let first : pre ++ records (payload ∷ payloads) ++ more ≡ pre ++ OPEN ∷ body payload ++ (records payloads ++ more) = first_is pre (OPEN ∷ body payload) (records payloads) more in
    let rest : pre ++ records (payload ∷ payloads) ++ more ≡ next ++ records payloads ++ more = rest_is pre (OPEN ∷ body payload) (records payloads) more in
    let head : payload_at (pre ++ records (payload ∷ payloads) ++ more) place ≡ payload =
    ap (λ (f : List ℕ). payload_at f place) first ∙ one_at pre payload (records payloads ++ more) gate place is are.0 are.1 in
    let tail : payloads_at (pre ++ records (payload ∷ payloads) ++ more) places ≡ payloads =
    ap (λ (f : List ℕ). payloads_at f places) rest ∙ placed places payloads next more (gate + 5 + length payload) size are.2 in
    λ i. head i ∷ tail i

-- a file that begins with these contents has their payloads at their places
pub placed_front : (x : Contents) (places : List Place) (more file : List ℕ) → file ≡ front x ++ more → ArePlaced (first_gate x.header) places x.payloads
    → payloads_at file places ≡ x.payloads
placed_front x places more file is are =
    let size : length (OPEN ∷ header_bytes x.header) ≡ first_gate x.header = omega arith in
    ap (λ (f : List ℕ). payloads_at f places) is ∙ placed places x.payloads (OPEN ∷ header_bytes x.header) more (first_gate x.header) size are

pub placed_before : (x : Contents) (places : List Place) (file : List ℕ) → StandsFor x file → ArePlaced (first_gate x.header) places x.payloads → payloads_at file places ≡ x.payloads
placed_before x places file stands are = placed_front x places (stands.gate ∷ stands.free) file stands.whole are

pub placed_either : (x : Contents) (payload : List ℕ) (places : List Place) (file : List ℕ) → IsBeforeOrAfter x payload file → ArePlaced (first_gate x.header) places x.payloads → payloads_at file places ≡ x.payloads
placed_either x payload places file (inl before) are = placed_before x places file before are
placed_either x payload places file (inr after) are =
    placed_front x places ((OPEN ∷ body payload) ++ after.gate ∷ after.free) file
    (after.whole ∙ ap (λ (l : List ℕ). l ++ after.gate ∷ after.free) (front-push x payload) ∙ append_assoc (front x) (OPEN ∷ body payload) (after.gate ∷ after.free)) are

-- one more place
pub placed-push : (places : List Place) (payloads : List (List ℕ)) (payload : List ℕ) (place : Place) (gate end : ℕ) → ArePlaced gate places payloads → gate + length (records payloads) ≡ end
    → place.at ≡ end + 5 → place.length ≡ length payload → ArePlaced gate (places ++ place ∷ []) (payloads ++ payload ∷ [])
placed-push [] [] payload place gate end are is at long = (omega (arith, is, at), long, tt)
placed-push [] (p ∷ payloads) payload place gate end are is at long = absurd are
placed-push (q ∷ places) [] payload place gate end are is at long = absurd are
placed-push (q ∷ places) (p ∷ payloads) payload place gate end are is at long =
    (are.0, are.1, placed-push places payloads payload place (gate + 5 + length p) end are.2 (omega (arith, is, length-append (OPEN ∷ body p) (records payloads), length-append (big_bytes 4 (length p)) p)) at long)

module _ (header : Header) (places : List Place) (end : ℕ) (old : Moments) (payload : List ℕ) where
  abbrev x : Contents
  x = said header places old.now.read

  module _ (before : Option (List ℕ)) (kept : IsKept x places end before old) where
    -- after a record was put
    module _ (place : Place) (new : Moments) (is_settled : IsSettled new.now) (has_it : StandsFor (with_one_more x payload) new.now.read)
        (at : place.at ≡ end + 5) (long : place.length ≡ length payload) where
      abbrev y : Contents
      y = said header (places ++ place ∷ []) new.now.read

      more_placed : ArePlaced (first_gate header) (places ++ place ∷ []) (x.payloads ++ payload ∷ [])
      more_placed = placed-push places x.payloads payload place (first_gate header) end kept.placed sizes at long
        where
          sizes : first_gate header + length (records x.payloads) ≡ end
          sizes = omega (arith, kept.size, length-append (OPEN ∷ header_bytes header) (records x.payloads))

      pub put_is : y ≡ with_one_more x payload
      put_is = ap (λ (ps : List (List ℕ)). record { header = header; payloads = ps }) (placed_before (with_one_more x payload) (places ++ place ∷ []) new.now.read has_it more_placed)

      pub put_kept : (past : ℕ) → past ≡ end + 5 + length payload → IsKept y (places ++ place ∷ []) past None new
      put_kept past is = subst (λ (z : Contents). IsKept z (places ++ place ∷ []) past None new) (sym put_is) (record {
        stands = (is_settled, has_it);
        placed = more_placed;
        size = omega (arith, ap length (front-push x payload), length-append (front x) (OPEN ∷ body payload), length-append (big_bytes 4 (length payload)) payload, kept.size, is);
      })

    -- after a call that failed
    module _ (new : Moments) (leaves : Leaves (IsBeforeOrAfter x payload) new.now) (fits : Fits (with_one_more x payload)) where
      pub doubt_is : said header places new.now.read ≡ x
      doubt_is = ap (λ (ps : List (List ℕ)). record { header = header; payloads = ps }) (placed_either x payload places new.now.read leaves.read kept.placed)

      pub doubt_kept : IsKept (said header places new.now.read) places end (Some payload) new
      doubt_kept = subst (λ (z : Contents). IsKept z places end (Some payload) new) (sym doubt_is) (record { stands = (leaves, fits); placed = kept.placed; size = kept.size })

pub payloads-push : (payloads : List (List ℕ)) (payload : List ℕ) → AllByRecursion IsPayload payloads → length payload ≤ GREATEST_PAYLOAD → AllByRecursion IsPayload (payloads ++ payload ∷ [])
payloads-push [] payload all short = (short, tt)
payloads-push (p ∷ payloads) payload all short = (all.0, payloads-push payloads payload all.1 short)

module _ (x : Contents) (places : List Place) (end : ℕ) (pending : Option (List ℕ)) (ms : Moments) (kept : IsKept x places end pending ms) (none : pending ≡ None) where
  stands : Stands x None ms
  stands = subst (λ (p : Option (List ℕ)). Stands x p ms) none kept.stands

  pub nothing_done : (payload : List ℕ) → AtEach (IsBeforeOrAfter x payload) ms ms
  nothing_done payload = at_start (IsBeforeOrAfter x payload) ms (subst (Leaves (IsBeforeOrAfter x payload)) (sym stands.0) (leaves_settled (IsBeforeOrAfter x payload) ms.now.read (inl stands.1)))

  pub nothing_written : (at n : ℕ) → AtEach (Torn at n ms.now.read) ms ms
  nothing_written at n = at_rest at n ms stands.0

  pub takes : (payload : List ℕ) → length payload ≤ GREATEST_PAYLOAD → end + 6 + length payload ≤ GREATEST_FILE → Takes x payload end ms.now.read
  takes payload short room = record {
    stands = stands.1;
    at = kept.size;
    fits = record {
      header = stands.1.fits.header;
      payloads = payloads-push x.payloads payload stands.1.fits.payloads short;
      end = omega (arith, ap length (front-push x payload), length-append (front x) (OPEN ∷ body payload), length-append (big_bytes 4 (length payload)) payload, kept.size, room);
    };
  }

-- the gate at the end of the list
shut_at : (x : Contents) (end : ℕ) (file : List ℕ) → length (front x) ≡ end → StandsFor x file → get_or file end 0 ≢ OPEN
shut_at x end file is stands opened = stands.shut (sym (ap (λ (l : List ℕ). get_or l end 0) stands.whole ∙ get_or_at (front x) stands.gate stands.free 0 end is) ∙ opened)

open_at : (x : Contents) (payload : List ℕ) (end : ℕ) (file : List ℕ) → length (front x) ≡ end → StandsFor (with_one_more x payload) file → get_or file end 0 ≡ OPEN
open_at x payload end file is stands =
    ap (λ (l : List ℕ). get_or l end 0) (stands.whole ∙ ap (λ (l : List ℕ). l ++ stands.gate ∷ stands.free) (front-push x payload) ∙ append_assoc (front x) (OPEN ∷ body payload) (stands.gate ∷ stands.free))
    ∙ get_or_at (front x) OPEN (body payload ++ stands.gate ∷ stands.free) 0 end is

-- a moment that is settled by some bytes is settled
pub settled_is : (m : Moment) (file : List ℕ) → m ≡ settled file → IsSettled m
settled_is m file is = is ∙ ap settled (sym (ap (λ (n : Moment). n.read) is))

module _ (header : Header) (places : List Place) (end : ℕ) (old new : Moments) (payload : List ℕ)
    (kept : IsKept (said header places old.now.read) places end (Some payload) old) where
  abbrev was : Contents
  was = said header places old.now.read

  abbrev P : List ℕ → Type 0
  P = IsBeforeOrAfter was payload

  stands_after : get_or old.now.read end 0 ≡ OPEN → StandsFor (with_one_more was payload) old.now.read
  stands_after opened = ⊎_elim (λ before. absurd (shut_at was end old.now.read kept.size before opened)) (λ after. after) kept.stands.0.read

  mend_synced : IsSynced old new → AtEach P old new
  mend_synced is_synced = ⊎_elim
      (λ same. subst (AtEach P old) (sym same) (at_start P old kept.stands.0))
      (λ done. at_next P old new (settled old.now.read) kept.stands.0 done (leaves_settled P old.now.read kept.stands.0.read))
      is_synced

  mend_opened : get_or old.now.read end 0 ≡ OPEN → AtEach (Torn end 1 old.now.read) (synced_at old) new → AtEach P old new
  mend_opened opened each =
      at_both P old (synced_at old) new
      (at_next P old (synced_at old) (settled old.now.read) kept.stands.0 refl (leaves_settled P old.now.read kept.stands.0.read))
      (at_weaker (Torn end 1 old.now.read) P (synced_at old) new (λ c torn. torn_gate was payload end old.now.read c kept.size (stands_after opened) torn) each)

  pub mend_moments : IsReopened end old new → AtEach P old new
  mend_moments reopened = ⊎_elim mend_synced (λ again. mend_opened again.0 again.1) reopened

  module _ (reopened : IsReopened end old new) where
    abbrev now_leaves : Leaves P new.now
    now_leaves = at_now P old new (mend_moments reopened)

    pub still_is : said header places new.now.read ≡ was
    still_is = doubt_is header places end old payload (Some payload) kept new now_leaves kept.stands.1

    pub still_kept : IsKept (said header places new.now.read) places end (Some payload) new
    still_kept = doubt_kept header places end old payload (Some payload) kept new now_leaves kept.stands.1

  module _ (read_is : new.now.read ≡ old.now.read) where
    pub dropped : (get_or old.now.read end 0 ≡ OPEN → ⊥) → StandsFor was new.now.read
    dropped closed = subst (StandsFor was) (sym read_is) (⊎_elim (λ before. before) (λ after. absurd (closed (open_at was payload end old.now.read kept.size after))) kept.stands.0.read)

    pub drop_kept : IsSettled new.now → (get_or old.now.read end 0 ≡ OPEN → ⊥) → IsKept (said header places new.now.read) places end None new
    drop_kept is_settled closed = subst (λ (z : Contents). IsKept z places end None new) (ap (λ (f : List ℕ). said header places f) (sym read_is)) (record {
      stands = (is_settled, dropped closed);
      placed = kept.placed;
      size = kept.size;
    })

    pub counted : get_or old.now.read end 0 ≡ OPEN → StandsFor (with_one_more was payload) new.now.read
    counted opened = subst (StandsFor (with_one_more was payload)) (sym read_is) (stands_after opened)

-- a test that was made
pub is_false : {b : Bool} {Q : Type 0} → (IsTrue b ↔ Q) → b ≡ false → Q → ⊥
is_false {b = b} iff is q = let e : false ≡ true = sym is ∙ iff.1 q in cc e

pub is_true : {b : Bool} {Q : Type 0} → (IsTrue b ↔ Q) → b ≡ true → Q
is_true {b = b} iff is = iff.0 is

-- what a mend leaves at each moment, whatever is in doubt
module _ (header : Header) (places : List Place) (end : ℕ) (old new : Moments) (pending : Option (List ℕ))
    (kept : IsKept (said header places old.now.read) places end pending old) (reopened : IsReopened end old new) where
  pub mend_leaves : MendLeaves pending (said header places old.now.read) end old new
  mend_leaves = record {
    reopened = reopened;
    stand = λ payload is. mend_moments header places end old new payload (subst (λ (p : Option (List ℕ)). IsKept (said header places old.now.read) places end p old) is kept) reopened;
  }
