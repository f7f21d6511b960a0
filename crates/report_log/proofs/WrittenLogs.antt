-- Logs: what a log gives is what its entries say, and where it has a fault no entry stands.
use Rattle.std.proofs.Common.{◌≡◌, ◌<◌, ◌≤◌, ℕ, zero, suc, ◌+◌, ◌-◌, List, [], ◌∷◌, ◌++◌, length, take, drop, Option, Some, None, Result, Ok, Err, refl, sym, ◌∙◌, ap, subst, arith, append_assoc, append-nil, add-zero, zero-add, length-append, length-drop, take-append-drop}
use Rattle.std.specs.List.{AllByRecursion}
use Rattle.std.proofs.Math.Seq.{drop-append_seam}
use Rattle.std.proofs.lemmas.List.{take_at, drop_at, length-take-le, flat_map_more}
use Rattle.lot_base.specs.Demands.{IsDemand}
use Rattle.lot_base.specs.declared.auction_terms.Terms.{Terms}
use Rattle.demand_set.specs.declared.reports.Report.{Report}
use Rattle.clock.specs.Reports.{ClockHistory, with_report}
use Rattle.clock.specs.Judging.{TakesAll}
use Rattle.clock.proofs.Append.{legal-push, all-push}
use Rattle.report_log.specs.Entries.{entry_in, log_from, log_of}
use Rattle.report_log.specs.Logs.{AreBytes, entry_of, entries_of, IsLogOf, IsFaultyAt}
use Rattle.report_log.proofs.FirstEntry.{log-end, log-fault, log-next}
use Rattle.report_log.proofs.WrittenEntries.{entry-read}
use Rattle.byte_numbers.proofs.Parts.{later_bytes}
use Rattle.report_log.proofs.ReadEntries.{IsFirst, entry-said}

-- a log, and an entry more
log-more : (terms : Terms) (c : ClockHistory) (front bytes rest : List ℕ) (r : Report) → IsLogOf terms c front → IsFirst c bytes r rest → IsLogOf terms (with_report c r) (front ++ entry_of (length c.terms.goods) r)
log-more terms c front bytes rest r is first =
    let goods = length terms.goods in
    let entry_is : entry_of (length c.terms.goods) r ≡ entry_of goods r = ap (λ (t : Terms). entry_of (length t.goods) r) is.terms_are in
    record {
      terms_are = is.terms_are;
      number_is = is.number_is;
      legal = record {
        number = is.legal.number;
        demands = all-push (λ (r : Report). IsDemand c.terms.goods r.demand) c.reports r is.legal.demands first.demand;
        takes = legal-push c r is.legal.takes first.take;
      };
      entries = (λ i. is.entries i ++ entry_is i) ∙ flat_map_more (entry_of goods) [] c.reports r;
    }

rest-bytes : (entry rest bytes : List ℕ) → AreBytes bytes → bytes ≡ entry ++ rest → AreBytes rest
rest-bytes entry rest bytes are e = subst AreBytes (ap (drop (length entry)) e ∙ drop-append_seam entry rest) (later_bytes bytes (length entry) are)

read-whole : (fuel : ℕ) (terms : Terms) (c d : ClockHistory) (place : ℕ) (front bytes : List ℕ) → IsLogOf terms c front → AreBytes bytes → log_from fuel c place bytes ≡ Ok d → IsLogOf terms d (front ++ bytes)
unfolding log_from
read-whole fuel terms c d place front [] is are e =
    let same : c ≡ d = (let f : Ok c ≡ Ok d = e in cc) in
    subst (λ bytes. IsLogOf terms d bytes) (sym (append-nil front)) (subst (λ (x : ClockHistory). IsLogOf terms x front) same is)
read-whole zero terms c d place front (b ∷ bytes) is are e = absurd (let f : Err place ≡ Ok d = e in cc)
read-whole (suc fuel) terms c d place front (b ∷ bytes) is are e =
    by (entry_in c (b ∷ bytes)) refl (λ r place front rest. read-whole fuel terms (with_report c r) d place front rest) e
  where
    by : (o : Option (Report × List ℕ)) → entry_in c (b ∷ bytes) ≡ o
        → ((r : Report) (place : ℕ) (front rest : List ℕ) → IsLogOf terms (with_report c r) front → AreBytes rest → log_from fuel (with_report c r) place rest ≡ Ok d → IsLogOf terms d (front ++ rest))
        → elim o as (λ x. Result ClockHistory ℕ) [ None ↦ Err place | Some e ↦ log_from fuel (with_report c e.0) (place + (length (b ∷ bytes) - length e.1)) e.1 ] ≡ Ok d → IsLogOf terms d (front ++ b ∷ bytes)
    by None found again e = absurd (let f : Err place ≡ Ok d = e in cc)
    by (Some (r, rest)) found again e =
        let first = entry-said c (b ∷ bytes) r rest are found in
        let entry = entry_of (length c.terms.goods) r in
        let whole = again r (place + (length (b ∷ bytes) - length rest)) (front ++ entry) rest (log-more terms c front (b ∷ bytes) rest r is first) (rest-bytes entry rest (b ∷ bytes) are first.whole) e in
        subst (λ all. IsLogOf terms d all) (append_assoc front entry rest ∙ ap (λ others. front ++ others) (sym first.whole)) whole

abbrev pub at-start : (terms : Terms) → IsLogOf terms (record { terms = terms; number = 0; reports = [] }) []
at-start terms = record { terms_are = refl; number_is = refl; legal = record { number = omega arith; demands = tt; takes = tt }; entries = refl }

pub whole-log : (terms : Terms) (bytes : List ℕ) (c : ClockHistory) → AreBytes bytes → log_of terms bytes ≡ Ok c → IsLogOf terms c bytes
whole-log terms bytes c are e = read-whole (length bytes) terms (record { terms = terms; number = 0; reports = [] }) c 0 [] bytes (at-start terms) are e

-- the entries of a legal history are read, and then what follows them
pub record IsPassed (fuel : ℕ) (c d : ClockHistory) (place : ℕ) (front rest : List ℕ) : Type 0 where
  pub more : ℕ
  pub passes : log_from fuel c place (front ++ rest) ≡ log_from more d (place + length front) rest

-- one entry more before those
pass-on : (fuel more place later : ℕ) (c c' d d' : ClockHistory) (entry others rest : List ℕ) → log_from more c' later (others ++ rest) ≡ log_from fuel c place (entry ++ (others ++ rest)) → d ≡ d'
    → later + length others ≡ place + length (entry ++ others) → IsPassed more c' d later others rest → IsPassed fuel c d' place (entry ++ others) rest
pass-on fuel more place later c c' d d' entry others rest next same at passed = record {
  more = passed.more;
  passes =
      ap (log_from fuel c place) (append_assoc entry others rest) ∙ sym next ∙ passed.passes
      ∙ (λ i. log_from passed.more (same i) (at i) rest);
}

entries-passed : (reports : List Report) (c : ClockHistory) (fuel place : ℕ) (rest : List ℕ) → AllByRecursion (λ (r : Report). IsDemand c.terms.goods r.demand) reports → TakesAll c reports
    → length (entries_of (length c.terms.goods) reports ++ rest) ≤ fuel → IsPassed fuel c (record c { reports = c.reports ++ reports }) place (entries_of (length c.terms.goods) reports) rest
entries-passed [] c fuel place rest demands takes few = record {
  more = fuel;
  passes = λ i. log_from fuel (record c { reports = sym (append-nil c.reports) i }) (sym (add-zero place) i) rest;
}
entries-passed (r ∷ reports) c fuel place rest demands takes few =
    let goods = length c.terms.goods in
    let entry = entry_of goods r in
    let others = entries_of goods reports in
    let whole = entry ++ (others ++ rest) in
    let less : length (others ++ rest) < length whole = omega (arith, length-append entry (others ++ rest)) in
    let next = log-next fuel c place whole (others ++ rest) r (omega (arith, few, ap length (append_assoc entry others rest))) less (sym (entry-read c r (others ++ rest) takes.0 demands.0)) in
    let later = place + (length whole - length (others ++ rest)) in
    pass-on fuel next.0 place later c (with_report c r) (record c { reports = (c.reports ++ r ∷ []) ++ reports }) (record c { reports = c.reports ++ r ∷ reports }) entry others rest next.2
    (ap (λ all. record c { reports = all }) (append_assoc c.reports (r ∷ []) reports))
    (omega (arith, length-append entry (others ++ rest), length-append entry others))
    (entries-passed reports (with_report c r) next.0 later rest demands.1 takes.1 next.1)

-- bytes that are a log, and what follows it
pub record IsRest (terms : Terms) (c : ClockHistory) (bytes : List ℕ) (place : ℕ) (rest : List ℕ) : Type 0 where
  pub more : ℕ
  pub passes : log_of terms bytes ≡ log_from more c place rest

begun : (c : ClockHistory) (all rest : List ℕ) → c.number ≡ 0 → IsPassed (length (all ++ rest)) (record c { reports = [] }) c 0 all rest → IsRest c.terms c (all ++ rest) (length all) rest
begun c all rest number passed = record {
  more = passed.more;
  passes =
      (λ i. log_from (length (all ++ rest)) (record { terms = c.terms; number = sym number i; reports = [] }) 0 (all ++ rest))
      ∙ passed.passes ∙ ap (λ n. log_from passed.more c n rest) (zero-add (length all));
}

at-rest : (terms : Terms) (c : ClockHistory) (front rest bytes : List ℕ) (place : ℕ) → front ++ rest ≡ bytes → length front ≡ place → IsLogOf terms c front → IsRest terms c bytes place rest
at-rest terms c front rest bytes place whole at is =
    let all = entries_of (length c.terms.goods) c.reports in
    let written : front ≡ all = is.entries ∙ ap (λ (t : Terms). entries_of (length t.goods) c.reports) (sym is.terms_are) in
    let passed = entries-passed c.reports (record c { reports = [] }) (length (all ++ rest)) 0 rest is.legal.demands is.legal.takes (omega arith) in
    let P : List ℕ → Type 0 = λ xs. IsRest terms c (xs ++ rest) (length xs) rest in
    let Q : List ℕ → Type 0 = λ xs. IsRest terms c xs place rest in
    let R : ℕ → Type 0 = λ n. IsRest terms c (front ++ rest) n rest in
    let S : Terms → Type 0 = λ t. IsRest t c (all ++ rest) (length all) rest in
    subst Q whole (subst R at (subst P (sym written) (subst S is.terms_are (begun c all rest is.number_is passed))))

-- each log of a legal history is read back
pub back-log : (terms : Terms) (bytes : List ℕ) (c : ClockHistory) → IsLogOf terms c bytes → log_of terms bytes ≡ Ok c
back-log terms bytes c is = let r = at-rest terms c bytes [] bytes (length bytes) (append-nil bytes) refl is in r.passes ∙ log-end r.more c (length bytes) [] refl

-- the place of a fault
fault-found : (fuel : ℕ) (terms : Terms) (c : ClockHistory) (place found : ℕ) (front bytes : List ℕ) → IsLogOf terms c front → AreBytes bytes → length front ≡ place → length bytes ≤ fuel
    → log_from fuel c place bytes ≡ Err found → IsFaultyAt terms (front ++ bytes) found
unfolding log_from
fault-found fuel terms c place found front [] is are at few e = absurd (let f : Ok c ≡ Err found = e in cc)
fault-found zero terms c place found front (b ∷ bytes) is are at few e = absurd (omega arith)
fault-found (suc fuel) terms c place found front (b ∷ bytes) is are at few e =
    by (entry_in c (b ∷ bytes)) refl (λ r place front rest. fault-found fuel terms (with_report c r) place found front rest) e
  where
    here : entry_in c (b ∷ bytes) ≡ None → IsFaultyAt terms (front ++ b ∷ bytes) place
    here none = record {
      before = c;
      log = subst (λ all. IsLogOf terms c all) (sym (take_at front (b ∷ bytes) place at)) is;
      within = omega (arith, length-append front (b ∷ bytes), at);
      no_entry = λ r rest demand take e.
          let here : b ∷ bytes ≡ entry_of (length c.terms.goods) r ++ rest =
          sym (drop_at front (b ∷ bytes) place at) ∙ e ∙ ap (λ (t : Terms). entry_of (length t.goods) r ++ rest) (sym is.terms_are) in
          let fits : IsDemand c.terms.goods r.demand = subst (λ (t : Terms). IsDemand t.goods r.demand) (sym is.terms_are) demand in
          let f : None ≡ Some (r, rest) = sym none ∙ ap (entry_in c) here ∙ entry-read c r rest take fits in
          cc;
    }

    by : (o : Option (Report × List ℕ)) → entry_in c (b ∷ bytes) ≡ o
        → ((r : Report) (place : ℕ) (front rest : List ℕ) → IsLogOf terms (with_report c r) front → AreBytes rest → length front ≡ place → length rest ≤ fuel → log_from fuel (with_report c r) place rest ≡ Err found → IsFaultyAt terms (front ++ rest) found)
        → elim o as (λ x. Result ClockHistory ℕ) [ None ↦ Err place | Some e ↦ log_from fuel (with_report c e.0) (place + (length (b ∷ bytes) - length e.1)) e.1 ] ≡ Err found → IsFaultyAt terms (front ++ b ∷ bytes) found
    by None none again e = subst (λ n. IsFaultyAt terms (front ++ b ∷ bytes) n) (let f : Err place ≡ Err found = e in cc) (here none)
    by (Some (r, rest)) said again e =
        let first = entry-said c (b ∷ bytes) r rest are said in
        let entry = entry_of (length c.terms.goods) r in
        let long : length (b ∷ bytes) ≡ length entry + length rest = ap length first.whole ∙ length-append entry rest in
        let whole = again r (place + (length (b ∷ bytes) - length rest)) (front ++ entry) rest (log-more terms c front (b ∷ bytes) rest r is first) (rest-bytes entry rest (b ∷ bytes) are first.whole)
        (omega (arith, length-append front entry, at, long)) (omega (arith, long, few)) e in
        subst (λ all. IsFaultyAt terms all found) (append_assoc front entry rest ∙ ap (λ others. front ++ others) (sym first.whole)) whole

pub fault-here : (terms : Terms) (bytes : List ℕ) (place : ℕ) → AreBytes bytes → IsFaultyAt terms bytes place → log_of terms bytes ≡ Err place
fault-here terms bytes place are faulty =
    let c = faulty.before in
    let rest = drop place bytes in
    let within = faulty.within in
    let at : length (take place bytes) ≡ place = length-take-le place bytes (omega arith) in
    let some : 0 < length rest = omega (arith, length-drop place bytes) in
    let r = at-rest terms c (take place bytes) rest bytes place (take-append-drop place bytes) at faulty.log in
    r.passes ∙ log-fault r.more c place rest some (by (entry_in c rest) refl)
  where
    none : (r : Report) (others : List ℕ) → entry_in faulty.before (drop place bytes) ≡ Some (r, others) → ⊥
    none r others read =
        let c = faulty.before in
        let first = entry-said c (drop place bytes) r others (later_bytes bytes place are) read in
        let terms_are = faulty.log.terms_are in
        faulty.no_entry r others (subst (λ (t : Terms). IsDemand t.goods r.demand) terms_are first.demand) first.take
        (first.whole ∙ ap (λ (t : Terms). entry_of (length t.goods) r ++ others) terms_are)

    by : (o : Option (Report × List ℕ)) → entry_in faulty.before (drop place bytes) ≡ o → entry_in faulty.before (drop place bytes) ≡ None
    by None read = read
    by (Some (r, others)) read = absurd (none r others read)

pub faulty-log : (terms : Terms) (bytes : List ℕ) (place : ℕ) → AreBytes bytes → log_of terms bytes ≡ Err place → IsFaultyAt terms bytes place
faulty-log terms bytes place are e = fault-found (length bytes) terms (record { terms = terms; number = 0; reports = [] }) 0 place [] bytes (at-start terms) are refl (omega arith) e
