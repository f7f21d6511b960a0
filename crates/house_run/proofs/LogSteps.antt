-- A log of the shelf: what its source gave is said of its file.
use Rattle.std.proofs.Common.{◌≡◌, ◌<◌, ℕ, List, [], length, subst, true, false, Option, Some, None, Result, Ok, Err, unwrap_or}
use Rattle.std.specs.Prelude.{IsSome}
use Rattle.house_io.specs.Shelves.{NamedFile, Begins, ChangesNone, IfTells, bytes_of}
use Rattle.house_io.specs.Told.{IfTold}
use Rattle.lot_base.specs.declared.auction_terms.Terms.{Terms}
use Rattle.clock.specs.Reports.{ClockOf}
use Rattle.report_log.specs.Logs.{log_limit}
use Rattle.report_log.specs.Reading.{ReadsLog}
use Rattle.report_log.specs.declared.pieces.LogFault.{LogFault}
use Rattle.report_log.specs.declared.pieces.LogFault.TheVariants as fault
use Rattle.house_run.specs.Reading.{ReadsLogAt}
use Rattle.house_run.specs.Seen.{ShelfSeen, content}

-- what a source tells is told of its file
told-of : (opened closed : Option (List NamedFile)) (left now : Option (List ℕ)) (name : List ℕ) (Q : List ℕ → Type 0) → IfTells opened (λ files. Begins (bytes_of files name) left) → IfTold left now (λ bytes rest. Q bytes)
    → ChangesNone opened closed → IfTells closed (λ _. IsSome now) → IfTells closed (λ files. Q (content files name))
told-of opened None left now name Q begins told same some = tt
told-of opened (Some files) left None name Q begins told same some = absurd (let f : false ≡ true = some in cc)
told-of opened (Some files) None (Some rest) name Q begins told same some = absurd told
told-of opened (Some files) (Some bytes) (Some rest) name Q begins told same some =
    let P : Option (List NamedFile) → Type 0 = λ o. IfTells o (λ fs. Begins (bytes_of fs name) (Some bytes)) in
    by (bytes_of files name) (subst P same begins)
  where
    by : (o : Option (List ℕ)) → Begins o (Some bytes) → Q (unwrap_or o [])
    by None e = subst Q e told
    by (Some whole) e = subst Q e told

pub read-at : (terms : Terms) (answer : Result ClockOf LogFault) (opened : Option (List NamedFile)) (shelf : ShelfSeen) (left now : Option (List ℕ)) (name : List ℕ) → IfTells opened (λ files. Begins (bytes_of files name) left)
    → ChangesNone opened shelf.files → IfTells shelf.files (λ _. IsSome now) → ReadsLog terms answer left now → ReadsLogAt terms answer shelf name
read-at terms (Ok c) opened shelf left now name begins same some reads =
    let w = reads.is_whole in
    record { read = reads.read; is_read = record { whole = told-of opened shelf.files left now name (λ bytes. reads.read ≡ bytes) begins w.whole same some; short = w.short; bytes = w.bytes }; log = reads.gives }
read-at terms (Err (fault.Faulty place)) opened shelf left now name begins same some reads =
    let w = reads.is_whole in
    record { read = reads.read; is_read = record { whole = told-of opened shelf.files left now name (λ bytes. reads.read ≡ bytes) begins w.whole same some; short = w.short; bytes = w.bytes }; faulty = reads.gives }
read-at terms (Err fault.TooLong) opened shelf left now name begins same some reads = told-of opened shelf.files left now name (λ bytes. log_limit < length bytes) begins reads same some
read-at terms (Err fault.Failed) opened shelf left now name begins same some reads = tt
read-at terms (Err fault.NoMemory) opened shelf left now name begins same some reads = tt
