use Rattle.session.proofs.Answering.{member_offered}
use Rattle.session.proofs.consulting.offer_at.Goals as goal

pub offered_reply-requires : goal.offered_reply-requires
offered_reply-requires g c = record { offered = member_offered c.offer-offered.result c.requires.member c.offer-offered.ensures.refusal }
