use Rattle.std.proofs.Common.{◌≡◌, ◌+◌, ◌≤◌, ◌++◌, [], ◌∷◌, length, refl, sym, ◌∙◌, ap, subst, arith, length-append, Ok}
use Rattle.house_io.specs.Disks.{told_moments}
use Rattle.report_journal.specs.Scans.{IsChunk, AreRead, IsNext}
use Rattle.report_journal.specs.declared.places.Place.{Place}
use Rattle.report_journal.specs.declared.heads.Next.TheVariants.{Record}
use Rattle.report_journal.proofs.Chunked.{chunk_none}
use Rattle.report_journal.proofs.Placed.{follow_push, after_push}
use Rattle.report_journal.proofs.Gates.{read_start, read_more}
use Rattle.report_journal.proofs.heads.read_records.Goals as goal

pub records-init : goal.records-init
records-init g c = rw c.new-places.ensures.items (record {
  later = record { told = λ told. told; claim = refl };
  moments = λ told. refl;
  read = λ told. read_start _ c.args.first (c.requires.file told);
  known = λ told. omega arith;
  chunk = λ told. chunk_none c.in_ok-chunk.chunk.bytes.items _ c.in_ok-chunk.chunk.at c.in_ok-chunk.chunk.filled c.in_ok-chunk.ensures;
  follows = record { follow = tt; after = refl; limit = c.requires.limit; roomy = omega arith };
  faults = refl;
})

pub records-preserved : goal.records-preserved
records-preserved g c =
    let before = c.records.invariant in
    let limits = c.next_record.ensures.limits c.in-Record.length (c.in_ok-next_record.was ∙ ap Ok c.in-Record.is) in
    let place : Place = record { at = c.records.gate + 5; length = c.in-Record.length } in
    rw c.in_ok-push-in-Record.ensures.items (record {
      later = record {
        told = λ told. before.later.told (c.next_record.ensures.reads.later.told told);
        claim = c.next_record.ensures.reads.later.claim ∙ before.later.claim;
      };
      moments = λ told. c.next_record.ensures.reads.same told ∙ before.moments (c.next_record.ensures.reads.later.told told);
      read = λ told.
          let told_before = c.next_record.ensures.reads.later.told told in
          let file = (told_moments (g.D.Disk.shown c.args.disk.now)).now.read in
          let next = subst (λ n. IsNext n c.records.gate (told_moments (g.D.Disk.shown c.records.disk)).now.read) c.in-Record.is (c.in_ok-next_record.ensures.found told) in
          let next_there = subst (λ ms. IsNext (Record c.in-Record.length) c.records.gate ms.now.read) (before.moments told_before) next in
          let more = read_more c.args.first c.records.places.items c.records.gate c.in-Record.length file (before.read told_before) next_there limits.0 in
          let e : c.records.gate + 5 + c.in-Record.length ≡ c.records.gate + (5 + c.in-Record.length) = omega arith in
          subst (λ gate. AreRead c.args.first (c.records.places.items ++ place ∷ []) gate file) e more;
      known = λ told.
          let told_before = c.next_record.ensures.reads.later.told told in
          subst (λ ms. c.next_record.new.known ≤ length ms.now.read) (before.moments told_before) (c.in_ok-next_record.ensures.chunk told).0;
      chunk = λ told.
          let told_before = c.next_record.ensures.reads.later.told told in
          subst (λ ms. IsChunk c.next_record.new.chunk.bytes.items c.next_record.new.chunk.at c.next_record.new.chunk.filled ms.now.read) (before.moments told_before) (c.in_ok-next_record.ensures.chunk told).1;
      follows = record {
        follow = follow_push c.records.places.items place c.args.first before.follows.follow (omega (arith, before.follows.after)) limits.0;
        after = omega (arith, after_push c.records.places.items place c.args.first, before.follows.after);
        limit = omega (arith, limits);
        roomy = omega (arith, before.follows.roomy, length-append c.records.places.items (place ∷ []));
      };
      faults = c.in_ok-next_record.ensures.cause.steady ∙ before.faults;
    })

pub next_record-requires-clause-file : goal.next_record-requires-clause-file
next_record-requires-clause-file g c told =
    let before = c.records.invariant in (
      subst (λ ms. c.records.known ≤ length ms.now.read) (sym (before.moments told)) (before.known told),
      subst (λ ms. IsChunk c.records.chunk.bytes.items c.records.chunk.at c.records.chunk.filled ms.now.read) (sym (before.moments told)) (before.chunk told),
    )
