-- A log that is read piece by piece: what was made of all bytes so far, an entry more, a piece more, and at the end.
use Rattle.std.proofs.Common.{◌≡◌, ◌∙◌, ◌≤◌, ◌<◌, ◌+◌, ◌-◌, ℕ, List, [], ◌∷◌, ◌++◌, length, take, drop, refl, sym, ap, subst, arith, inl, inr, lit<, true, false, Option, Some, None, Result, Ok, Err, append_assoc, append-nil, length-append, take-add}
use Rattle.std.specs.Prelude.{slice_index}
use Rattle.std.proofs.lemmas.Bool.{cases_lt}
use Rattle.std.proofs.lemmas.List.{take_at, drop_at, drop-drop, take-take, flat_map_more, get_or_append_left, get_or-append-add}
use Rattle.house_io.specs.Told.{IfTold}
use Rattle.house_io.specs.Sources.{Takes}
use Rattle.house_io.proofs.Telling.{told-map, told-same, told-trans}
use Rattle.lot_base.specs.Demands.{IsDemand}
use Rattle.lot_base.specs.declared.auction_terms.Terms.{Terms}
use Rattle.demand_set.specs.declared.reports.Report.{Report}
use Rattle.clock.specs.Reports.{ClockHistory, ClockOf, with_report}
use Rattle.clock.proofs.Append.{legal-push, all-push}
use Rattle.report_log.specs.Logs.{AreBytes, IsFaultyAt, IsLogOf, entry_of, log_limit}
use Rattle.report_log.specs.Pieces.{HasNoEntry, HasRead, IsEntry, IsFaulty, IsReadTo, IsUnfinished, IsUpTo}
use Rattle.report_log.specs.Reading.{Gives, IsWhole, ReadsLog}
use Rattle.report_log.specs.declared.pieces.LogFault.{LogFault}
use Rattle.report_log.specs.declared.pieces.LogFault.TheVariants as fault
use Rattle.report_log.proofs.TakenEntries.{too-short}
use Rattle.report_log.proofs.WrittenLogs.{at-start}

-- nothing was read
pub none-read : (terms : Terms) → HasRead terms (record { terms = terms; number = 0; reports = [] }) None [] []
none-read terms = record { up_to = record { before = []; log = at-start terms; all_are = refl }; no_entry = too-short terms (record { terms = terms; number = 0; reports = [] }) [] (omega arith) }

-- a piece more
pub piece-more : (terms : Terms) (c : ClockHistory) (all rest piece : List ℕ) → IsUpTo terms c all rest → IsUpTo terms c (all ++ piece) (rest ++ piece)
piece-more terms c all rest piece is = record { before = is.before; log = is.log; all_are = ap (λ xs. xs ++ piece) is.all_are ∙ append_assoc is.before rest piece }

-- an entry more
pub entry-more : (terms : Terms) (c : ClockHistory) (all bytes rest : List ℕ) (r : Report) → IsUpTo terms c all bytes → IsEntry terms c bytes r rest → IsUpTo terms (with_report c r) all rest
entry-more terms c all bytes rest r is entry =
    let goods = length terms.goods in
    let log = is.log in
    record {
      before = is.before ++ entry_of goods r;
      log = record {
        terms_are = log.terms_are;
        number_is = log.number_is;
        legal = record {
          number = log.legal.number;
          demands = all-push (λ (r : Report). IsDemand c.terms.goods r.demand) c.reports r log.legal.demands (subst (λ (t : Terms). IsDemand t.goods r.demand) (sym log.terms_are) entry.demand);
          takes = legal-push c r log.legal.takes entry.take;
        };
        entries = ap (λ xs. xs ++ entry_of goods r) log.entries ∙ flat_map_more (entry_of goods) [] c.reports r;
      };
      all_are = is.all_are ∙ ap (λ xs. is.before ++ xs) entry.whole ∙ sym (append_assoc is.before (entry_of goods r) rest);
    }

pub rest-more : (bytes rest entry after : List ℕ) → length rest ≤ length bytes → rest ≡ drop (length bytes - length rest) bytes → rest ≡ entry ++ after → after ≡ drop (length bytes - length after) bytes
rest-more bytes rest entry after within is whole =
    let long = ap length whole ∙ length-append entry after in
    let sum : length bytes - length rest + length entry ≡ length bytes - length after = omega (arith, long, within) in
    sym (drop_at entry after (length entry) refl) ∙ ap (drop (length entry)) (sym whole ∙ is) ∙ drop-drop (length entry) (length bytes - length rest) bytes ∙ ap (λ n. drop n bytes) sum

faulty-behind : (terms : Terms) (c : ClockHistory) (before rest : List ℕ) → IsLogOf terms c before → 0 < length rest → HasNoEntry terms c rest → IsFaultyAt terms (before ++ rest) (length before)
faulty-behind terms c before rest log some none = record {
  before = c;
  log = subst (IsLogOf terms c) (sym (take_at before rest (length before) refl)) log;
  within = omega (arith, length-append before rest);
  no_entry = λ r others fits judged e. none r others fits judged (sym (drop_at before rest (length before) refl) ∙ e);
}

-- a faulty entry was found
pub fault-found : (terms : Terms) (c : ClockHistory) (all rest : List ℕ) (n : ℕ) → IsUpTo terms c all rest → IsFaulty terms c rest → n ≡ length all → (more : List ℕ) → IsFaultyAt terms (all ++ more) (n - length rest)
fault-found terms c all rest n is faulty size more =
    let before = is.before in
    let found = faulty-behind terms c before (rest ++ more) is.log (omega (arith, faulty.some, length-append rest more)) (faulty.no_entry more) in
    let at : length before ≡ n - length rest = omega (arith, size, ap length is.all_are, length-append before rest) in
    let whole : before ++ (rest ++ more) ≡ all ++ more = sym (append_assoc before rest more) ∙ ap (λ xs. xs ++ more) (sym is.all_are) in
    subst (λ (xs : List ℕ). IsFaultyAt terms xs (n - length rest)) whole (subst (λ (k : ℕ). IsFaultyAt terms (before ++ (rest ++ more)) k) at found)

-- and what follows changes nothing
pub fault-stays : (terms : Terms) (all piece : List ℕ) (place : ℕ) → ((more : List ℕ) → IsFaultyAt terms (all ++ more) place) → (more : List ℕ) → IsFaultyAt terms ((all ++ piece) ++ more) place
fault-stays terms all piece place faulty more = subst (λ (xs : List ℕ). IsFaultyAt terms xs place) (sym (append_assoc all piece more)) (faulty (piece ++ more))

-- at the end
pub fault-given : (terms : Terms) (all : List ℕ) (place : ℕ) → ((more : List ℕ) → IsFaultyAt terms (all ++ more) place) → IsFaultyAt terms all place
fault-given terms all place faulty = subst (λ (xs : List ℕ). IsFaultyAt terms xs place) (append-nil all) (faulty [])

pub cut-given : (terms : Terms) (c : ClockHistory) (all rest : List ℕ) (n left : ℕ) → IsReadTo terms c all rest → n ≡ length all → left ≡ length rest → 0 < left → IsFaultyAt terms all (n - left)
cut-given terms c all rest n left is size left_is some =
    let before = is.up_to.before in
    let found = faulty-behind terms c before rest is.up_to.log (omega (arith, left_is, some)) is.no_entry in
    let at : length before ≡ n - left = omega (arith, size, left_is, ap length is.up_to.all_are, length-append before rest) in
    subst (λ (xs : List ℕ). IsFaultyAt terms xs (n - left)) (sym is.up_to.all_are) (subst (λ (k : ℕ). IsFaultyAt terms (before ++ rest) k) at found)

pub log-given : (terms : Terms) (c : ClockHistory) (all rest : List ℕ) → IsReadTo terms c all rest → length rest ≡ 0 → IsLogOf terms c all
log-given terms c all [] is none = subst (IsLogOf terms c) (sym (is.up_to.all_are ∙ append-nil is.up_to.before)) is.up_to.log
log-given terms c all (b ∷ rest) is none = absurd (omega arith)

pub bytes-more : (all piece : List ℕ) → AreBytes all → AreBytes piece → AreBytes (all ++ piece)
bytes-more all piece are also i = elim (cases_lt i (length all)) [
  | inl less ↦ subst (λ (b : ℕ). b < 256) (sym (get_or_append_left all piece 0 i less)) (are i)
  | inr more ↦
      let e : length all + (i - length all) ≡ i = omega (arith, more) in
      subst (λ (k : ℕ). slice_index (all ++ piece) k < 256) e (subst (λ (b : ℕ). b < 256) (sym (get_or-append-add all piece (i - length all) 0)) (also (i - length all)))
]

-- the whole log was read
pub whole-given : (terms : Terms) (answer : Result ClockOf LogFault) (before after : Option (List ℕ)) (read : List ℕ) → IsWhole before after read → Gives terms answer read → ReadsLog terms answer before after
whole-given terms (Ok c) before after read is gives = record { read = read; is_whole = is; gives = gives }
whole-given terms (Err (fault.Faulty place)) before after read is gives = record { read = read; is_whole = is; gives = gives }
whole-given terms (Err fault.TooLong) before after read is gives = absurd gives
whole-given terms (Err fault.Failed) before after read is gives = absurd gives
whole-given terms (Err fault.NoMemory) before after read is gives = absurd gives

pub not-failed : (terms : Terms) (answer : Result ClockOf LogFault) (read : List ℕ) → Gives terms answer read → answer ≡ Err fault.Failed → ⊥
not-failed terms answer read gives e = let P : Result ClockOf LogFault → Type 0 = λ a. Gives terms a read in subst P e gives

-- a reader that takes a piece more

pub faulty-before : (terms : Terms) (c : ClockHistory) (fault : Option ℕ) (place : ℕ) (all rest piece later : List ℕ) → fault ≡ Some place → HasRead terms c fault all rest → HasRead terms c fault (all ++ piece) later
faulty-before terms c fault place all rest piece later e =
    let P : Option ℕ → Type 0 = λ f. HasRead terms c f all rest → HasRead terms c f (all ++ piece) later in
    subst P (sym e) (λ has. fault-stays terms all piece place has)

-- all bytes with the piece, before its entries are taken
pub piece-given : (terms : Terms) (c : ClockHistory) (fault : Option ℕ) (all rest piece bytes : List ℕ) → fault ≡ None → bytes ≡ rest ++ piece → HasRead terms c fault all rest → IsUpTo terms c (all ++ piece) bytes
piece-given terms c fault all rest piece bytes e same has =
    let P : Option ℕ → Type 0 = λ f. HasRead terms c f all rest in
    subst (IsUpTo terms c (all ++ piece)) (sym same) (piece-more terms c all rest piece (subst P e has).up_to)

pub unfinished-after : (terms : Terms) (c : ClockHistory) (fault : Option ℕ) (all later : List ℕ) → fault ≡ None → IsUpTo terms c all later → IsUnfinished terms c later → HasRead terms c fault all later
unfinished-after terms c fault all later e up_to is =
    let P : Option ℕ → Type 0 = λ f. HasRead terms c f all later in
    subst P (sym e) (record { up_to = up_to; no_entry = is.no_entry })

pub faulty-after : (terms : Terms) (c : ClockHistory) (all later behind : List ℕ) (n left : ℕ) → IsUpTo terms c all later → IsFaulty terms c later → n ≡ length all → length later ≡ left → HasRead terms c (Some (n - left)) all behind
faulty-after terms c all later behind n left up_to is size same =
    subst (λ (k : ℕ). (more : List ℕ) → IsFaultyAt terms (all ++ more) (n - k)) same (fault-found terms c all later n up_to is size)

-- and is at the end

pub gives-fault : (terms : Terms) (c : ClockHistory) (fault : Option ℕ) (place : ℕ) (all rest : List ℕ) → fault ≡ Some place → HasRead terms c fault all rest → IsFaultyAt terms all place
gives-fault terms c fault place all rest e has =
    let P : Option ℕ → Type 0 = λ f. HasRead terms c f all rest in
    fault-given terms all place (subst P e has)

pub gives-cut : (terms : Terms) (c : ClockHistory) (fault : Option ℕ) (all rest : List ℕ) (n left : ℕ) → fault ≡ None → HasRead terms c fault all rest → n ≡ length all → left ≡ length rest → 0 < left → IsFaultyAt terms all (n - left)
gives-cut terms c fault all rest n left e has size left_is some =
    let P : Option ℕ → Type 0 = λ f. HasRead terms c f all rest in
    cut-given terms c all rest n left (subst P e has) size left_is some

pub gives-log : (terms : Terms) (c : ClockHistory) (fault : Option ℕ) (all rest : List ℕ) → fault ≡ None → HasRead terms c fault all rest → length rest ≡ 0 → IsLogOf terms c all
gives-log terms c fault all rest e has none =
    let P : Option ℕ → Type 0 = λ f. HasRead terms c f all rest in
    log-given terms c all rest (subst P e has) none

-- what was pulled so far, and what a reader made of it

-- this was taken
abbrev pub Took : List ℕ → List ℕ → List ℕ → Type 0
Took text before after = before ≡ text ++ after

took-more : (old now new : Option (List ℕ)) (text into : List ℕ) (n : ℕ) → IfTold old now (Took text) → IfTold now new (Takes n into) → IfTold old new (Took (text ++ take n into))
took-more old now new text into n p q =
    told-trans old now new _ _ _ p q (λ x y z f h. f ∙ ap (λ xs. text ++ xs) h.bytes ∙ sym (append_assoc text (take n into) z))

took-all : (old now new : Option (List ℕ)) (text into : List ℕ) → 0 < length into → IfTold old now (Took text) → IfTold now new (Takes 0 into) → IfTold old new (λ bytes rest. text ≡ bytes)
took-all old now new text into room p q =
    told-trans old now new _ _ _ p q (λ x y z f h. sym (f ∙ ap (λ xs. text ++ xs) ((h.at_end room).0 (λ _. 0)) ∙ append-nil text))

pub record SoFar (terms : Terms) (c : ClockHistory) (fault : Option ℕ) (before now : Option (List ℕ)) (so_far : ℕ) (held : List ℕ) : Type 0 where
  pub all : List ℕ
  pub bytes : AreBytes all
  pub long : so_far ≡ length all
  pub told : IfTold before now (Took all)
  pub has : HasRead terms c fault all held

pub nothing-yet : (terms : Terms) (c : ClockHistory) (before : Option (List ℕ)) → c ≡ record { terms = terms; number = 0; reports = [] } → SoFar terms c None before before 0 []
nothing-yet terms c before e = record {
  all = [];
  bytes = λ i. lit< tt;
  long = refl;
  told = told-same before (Took []) (λ bytes. refl);
  has = subst (λ (h : ClockHistory). HasRead terms h None [] []) (sym e) (none-read terms);
}

-- the bytes that are judged: those that were held, and the piece
pub held-and-piece : (buffer old : List ℕ) (held count room : ℕ) → take held buffer ≡ take held old → count ≤ room → take (held + count) buffer ≡ take held old ++ take count (take room (drop held buffer))
held-and-piece buffer old held count room kept few =
    take-add held count buffer ∙ (λ i. kept i ++ sym (take-take count room (drop held buffer) few) i)

pub more-so-far : (terms : Terms) (c d : ClockHistory) (fault found : Option ℕ) (before now new : Option (List ℕ)) (n m count : ℕ) (held into later : List ℕ) → (s : SoFar terms c fault before now n held) → IfTold now new (Takes count into)
    → AreBytes (take count into) → length (take count into) ≡ count → m ≡ n + count → HasRead terms d found (s.all ++ take count into) later → SoFar terms d found before new m later
more-so-far terms c d fault found before now new n m count held into later s takes are size sum has = record {
  all = s.all ++ take count into;
  bytes = bytes-more s.all (take count into) s.bytes are;
  long = omega (arith, sum, s.long, size, length-append s.all (take count into));
  told = took-more before now new s.all into count s.told takes;
  has = has;
}

pub whole-so-far : (terms : Terms) (c : ClockHistory) (fault : Option ℕ) (before now new : Option (List ℕ)) (n : ℕ) (held into : List ℕ) → (s : SoFar terms c fault before now n held) → IfTold now new (Takes 0 into) → 0 < length into → n ≤ log_limit
    → IsWhole before new s.all
whole-so-far terms c fault before now new n held into s takes room few = record {
  whole = took-all before now new s.all into room s.told takes;
  short = omega (arith, s.long, few);
  bytes = s.bytes;
}

pub too-much : (terms : Terms) (c : ClockHistory) (fault : Option ℕ) (before now : Option (List ℕ)) (n : ℕ) (held : List ℕ) → SoFar terms c fault before now n held → log_limit < n → IfTold before now (λ bytes rest. log_limit < length bytes)
too-much terms c fault before now n held s much = told-map before now _ _ s.told (λ bytes rest e. omega (arith, ap length e, length-append s.all rest, s.long, much))
