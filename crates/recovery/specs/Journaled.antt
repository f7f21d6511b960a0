-- What a journal's file says of the reports of a clock.
use Rattle.std.specs.Prelude.{◌≡◌, ◌⊎◌, ℕ, ◌==◌, if◌then◌else◌, List, [], ◌∷◌, ◌++◌, length, map, Option, Some, None}
use Rattle.lot_base.specs.declared.auction_terms.Terms.{Terms}
use Rattle.demand_set.specs.declared.reports.Report.{Report}
use Rattle.report_journal.specs.declared.headers.Header.{Header}
use Rattle.report_journal.specs.Format.{Contents, StandsFor, Fits, IsUnformed, front}
use Rattle.recovery.specs.Entries.{payload_of, AreReportsOf}

-- whose journal it is: the terms of the auction, the clock's number, and the digest of the auction's file
pub record Owner : Type 0 where
  pub terms : Terms
  pub clock : ℕ
  pub digest : List ℕ

-- the owner of these terms, this clock and this digest
abbrev pub owner_of : Terms → ℕ → List ℕ → Owner
owner_of terms clock digest = record { terms = terms; clock = clock; digest = digest }

-- the opening prices that a header names: none in the first version
abbrev pub opening_in : ℕ → List ℕ → Option (List ℕ)
opening_in version opening = if version == 1 then None else Some opening

-- the header that the owner's journal has
abbrev pub header_of : Owner → Header
header_of owner = record {
  version = owner.terms.version;
  clock = owner.clock;
  digest = owner.digest;
  opening = opening_in owner.terms.version owner.terms.opening;
}

-- the contents of the owner's journal, where it has these reports
abbrev pub contents_of : Owner → List Report → Contents
contents_of owner reports = record { header = header_of owner; payloads = map (payload_of (length owner.terms.goods)) reports }

-- the file stands for these reports, as the owner's journal
pub record StandsForReports (owner : Owner) (reports : List Report) (file : List ℕ) : Type 0 where
  pub stands : StandsFor (contents_of owner reports) file
  pub are : AreReportsOf owner.terms reports

-- the reports of a file that is no broken journal: those that it stands for, or none where it is unformed
abbrev pub IsReadAs : Owner → List Report → List ℕ → Type 0
IsReadAs owner reports file = (IsUnformed file × (reports ≡ [])) ⊎ StandsForReports owner reports file

-- the file begins with these contents and a byte after them
pub record BeginsWith (x : Contents) (file : List ℕ) : Type 0 where
  pub byte : ℕ
  pub rest : List ℕ
  pub whole : file ≡ front x ++ byte ∷ rest
  pub fits : Fits x

-- the file begins as the owner's journal with these reports
pub record BeginsWithReports (owner : Owner) (reports : List Report) (file : List ℕ) : Type 0 where
  pub begins : BeginsWith (contents_of owner reports) file
  pub are : AreReportsOf owner.terms reports
