-- Steps in turn, and the frame of a job that is made of them.
use Rattle.std.proofs.Common.{◌≡◌, ◌∙◌, ◌≤◌, ◌+◌, ◌++◌, ℕ, zero, suc, List, [], ◌∷◌, take, Option, Some, None, arith, inl, inr, refl, sym, ap, subst, option_map, unwrap_or}
use Rattle.house_io.specs.Moments.{AtEach, Leaves, Moments, opened, settled, synced_at}
use Rattle.house_io.proofs.Moments.{only_settled}
use Rattle.house_io.specs.Shelves.{NamedFile, IfTells, ChangesNone, RisesOnly, file_of, moments_at, with_name}
use Rattle.auction_file.specs.AuctionFile.{Listing}
use Rattle.house_run.specs.Causes.{Tells}
use Rattle.house_run.specs.Frame.{Frame, KeepsAll, KeepsContents, KeepsFiles, OnlySynced, OpensSources, RisesAmong, synced_times}
use Rattle.house_run.specs.Needs.{Needs, Has, IsJournal, sources, with_names}
use Rattle.house_run.specs.Seen.{Outside, ShelfSeen, IsAuctionAt, content}
use Rattle.house_run.specs.Steps.{IsSteady, OnlyReads, OpensOnly}
use Rattle.house_run.specs.declared.ends.Ended.{Ended}
use Rattle.house_run.proofs.Closing.{same-or-other}

pub has : {A : Type 0} (o : Option A) (a : A) (P : A → Type 0) → o ≡ Some a → P a → Has o P
has {A = A} o a P e p = let Q : Option A → Type 0 = λ x. Has x P in subst Q (sym e) p

-- counts

pub steady-counts : (P : List ℕ → Type 0) (shelf : ShelfSeen) → IsSteady shelf → RisesAmong P shelf.faults_before shelf.faults
steady-counts P shelf steady = record { later = λ name. let e = steady name in omega arith; others = λ name other. steady name }

pub one-counts : (P : List ℕ → Type 0) (name : List ℕ) (shelf : ShelfSeen) → RisesOnly name shelf.faults_before shelf.faults → P name → RisesAmong P shelf.faults_before shelf.faults
one-counts P name shelf rises p = record {
  later = λ other. elim (same-or-other name other) [
    | inl e ↦ let Q : List ℕ → Type 0 = λ n. shelf.faults_before n ≤ shelf.faults n in subst Q (sym e) rises.later
    | inr ne ↦ let same = rises.others other ne in omega arith
  ];
  others = λ other not. rises.others other (λ e. not (subst P (sym e) p));
}

-- files

pub none-kept : (P : List ℕ → Type 0) (before now : Option (List NamedFile)) → ChangesNone before now → KeepsAll P before now
none-kept P before None same = tt
none-kept P before (Some files) same =
    let Q : Option (List NamedFile) → Type 0 = λ o. KeepsAll P o (Some files) in
    let here : KeepsContents P files files = record { same = λ name not. refl; synced = λ name. record { count = 0; moments_are = refl }; absent = λ name none. none } in
    subst Q (sym same) here

synced-more : (m n : ℕ) (ms : Moments) → synced_times m (synced_times n ms) ≡ synced_times (m + n) ms
synced-more zero n ms = ap (λ k. synced_times k ms) (let e : n ≡ 0 + n = omega arith in e)
synced-more (suc m) n ms = ap synced_at (synced-more m n ms) ∙ ap (λ k. synced_times k ms) (let e : suc (m + n) ≡ suc m + n = omega arith in e)

synced-then : (a b c : Moments) → OnlySynced a b → OnlySynced b c → OnlySynced a c
synced-then a b c first second = record { count = second.count + first.count; moments_are = second.moments_are ∙ ap (synced_times second.count) first.moments_are ∙ synced-more second.count first.count a }

contents-then : (P Q : List ℕ → Type 0) (a b c : List NamedFile) → ((name : List ℕ) → Q name → P name) → KeepsContents P a b → KeepsContents Q b c → KeepsContents P a c
contents-then P Q a b c wider first second = record {
  same = λ name not. second.same name (λ q. not (wider name q)) ∙ first.same name not;
  synced = λ name. synced-then _ _ _ (first.synced name) (second.synced name);
  absent = λ name none. second.absent name (first.absent name none);
}

pub kept-then : (P Q : List ℕ → Type 0) (a b c : Option (List NamedFile)) → ((name : List ℕ) → Q name → P name) → KeepsAll P a b → KeepsAll Q b c → KeepsAll P a c
kept-then P Q a b None wider first second = tt
kept-then P Q a None (Some c) wider first second = absurd second
kept-then P Q None (Some b) (Some c) wider first second = absurd first
kept-then P Q (Some a) (Some b) (Some c) wider first second = contents-then P Q a b c wider first second

-- what was read

pub content-now : (o : Option NamedFile) → unwrap_or (option_map (λ file. file.moments.now.read) o) [] ≡ (unwrap_or (option_map (λ file. file.moments) o) (opened [])).now.read
content-now None = refl
content-now (Some file) = refl

synced-read : (count : ℕ) (ms : Moments) → (synced_times count ms).now.read ≡ ms.now.read
synced-read zero ms = refl
synced-read (suc count) ms = synced-read count ms

pub content-same : (P : List ℕ → Type 0) (files after : List NamedFile) (name : List ℕ) → KeepsContents P files after → content files name ≡ content after name
content-same P files after name kept =
    let s = kept.synced name in
    content-now (file_of files name) ∙ sym (synced-read s.count (moments_at files name)) ∙ ap (λ (ms : Moments). ms.now.read) (sym s.moments_are) ∙ sym (content-now (file_of after name))

whole-then : (P : List ℕ → Type 0) (before now : Option (List NamedFile)) (name read : List ℕ) → KeepsAll P before now → IfTells before (λ files. read ≡ content files name) → IfTells now (λ files. read ≡ content files name)
whole-then P before None name read kept whole = tt
whole-then P None (Some now) name read kept whole = absurd kept
whole-then P (Some before) (Some now) name read kept whole = whole ∙ content-same P before now name kept

pub auction-then : (P : List ℕ → Type 0) (shelf later : ShelfSeen) (name : List ℕ) (listing : Listing) → KeepsAll P shelf.files later.files → IsAuctionAt shelf name listing → IsAuctionAt later name listing
auction-then P shelf later name listing kept is = record {
  read = is.read;
  is_read = record { whole = whole-then P shelf.files later.files name is.read kept is.is_read.whole; short = is.is_read.short; bytes = is.is_read.bytes };
  says = is.says;
}

-- what held of a file's images when the call began holds of them at each of its moments
pub synced-keeps : (P : List ℕ → Type 0) (count : ℕ) (before : Moments) → Leaves P before.now → AtEach P before (synced_times count before)
synced-keeps P zero before leaves = record { more = []; grown = refl; each = tt; first = leaves }
synced-keeps P (suc count) before leaves =
    let last = synced_times count before in
    let kept = synced-keeps P count before leaves in
    let read : P last.now.read = subst P (sym (synced-read count before)) leaves.read in
    let here : Leaves P (settled last.now.read) = record { read = read; images = λ image is. subst P (sym (only_settled last.now.read image is)) read } in
    record { more = settled last.now.read ∷ kept.more; grown = ap (λ ms. settled last.now.read ∷ ms) kept.grown; each = (here, kept.each); first = kept.first }

pub only-synced-keeps : (P : List ℕ → Type 0) (before after : Moments) → OnlySynced before after → Leaves P before.now → AtEach P before after
only-synced-keeps P before after only leaves = subst (AtEach P before) (sym only.moments_are) (synced-keeps P only.count before leaves)

-- names

pub names-then : (xs ys names : List (List ℕ)) → with_names (xs ++ ys) names ≡ with_names ys (with_names xs names)
names-then [] ys names = refl
names-then (x ∷ xs) ys names = names-then xs ys (with_name x names)

-- the file was not opened, or it is the only source
pub opens-one : (needs : Needs) (name : List ℕ) (shelf : ShelfSeen) → sources needs ≡ name ∷ [] → OpensOnly name shelf.opened_before shelf.opened → OpensSources needs shelf
opens-one needs name shelf are (inl e) = record { count = 0; names = e }
opens-one needs name shelf are (inr e) =
    let P : List (List ℕ) → Type 0 = λ names. shelf.opened ≡ with_names (take 1 names) shelf.opened_before in
    record { count = 1; names = subst P (sym are) e }

-- counts that were steady up to here
pub counts-then : (P : List ℕ → Type 0) (shelf : ShelfSeen) (between : List ℕ → ℕ) → ((name : List ℕ) → between name ≡ shelf.faults_before name) → RisesAmong P between shelf.faults → RisesAmong P shelf.faults_before shelf.faults
counts-then P shelf between steady rises = record {
  later = λ name. let e = steady name in let l = rises.later name in omega arith;
  others = λ name not. rises.others name not ∙ steady name;
}

-- the auction was refused, and no journal was opened
pub refused-frame : (needs : Needs) (auction : List ℕ) (end : Ended) (seen : Outside) → sources needs ≡ auction ∷ [] → OnlyReads auction seen.shelf
    → RisesAmong (Tells needs end) seen.shelf.faults_before seen.shelf.faults → Frame needs end seen
refused-frame needs auction end seen are reads counts =
    record { names = inl (opens-one needs auction seen.shelf are reads.names); counts = counts; files = files needs.journals }
  where
    files : (o : Option (List ℕ)) → KeepsFiles o seen.shelf.files_before seen.shelf.files
    files None = reads.unchanged
    files (Some journals) = none-kept (IsJournal journals) seen.shelf.files_before seen.shelf.files reads.unchanged
