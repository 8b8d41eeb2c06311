use Rattle.session_files.proofs.OneSession.{one_session, session_sample}
use Rattle.session_files.proofs.laws.one_session.Goals as goal

pub returns : goal.returns
returns c = record { law = one_session; sample = session_sample }
