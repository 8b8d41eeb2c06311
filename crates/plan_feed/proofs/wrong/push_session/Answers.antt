use Rattle.plan_feed.specs.Wrongs.{session_words}
use Rattle.plan_feed.proofs.wrong.push_session.Goals as goal

pub returns : goal.returns
unfolding session_words
returns c = c.in_ok-extend_from_slice.ensures.items
