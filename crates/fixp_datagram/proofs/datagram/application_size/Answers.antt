-- Where no application frame is found, none is spelled.
use Rattle.std.proofs.Common.{sym, subst}
use Rattle.sofh_frame.specs.Framing.{First}
use Rattle.sofh_frame.specs.Splits.{IsNoFrame}
use Rattle.fixp_msgs.specs.Header.{kind_of}
use Rattle.fixp_datagram.proofs.Reading.{no_application, other_kind, kinds_differ, not_frame}
use Rattle.fixp_datagram.proofs.datagram.application_size.Goals as goal

pub returns-in_default : goal.returns-in_default
returns-in_default c =
    let P : First → Type 0 = IsNoFrame in
    record { found = tt; none = no_application c.args.bytes.now (subst P c.next.ensures.exact (not_frame c.next.result c.in_default.not-Frame)) }

pub returns-in-Session : goal.returns-in-Session
returns-in-Session c =
    let order = c.in-Frame.order in
    let message = c.in-Frame.message.now in
    record {
      found = tt;
      none = other_kind c.args.bytes.now order message c.in-Frame.size (sym c.in-Frame.ensures.exact)
          (kinds_differ c.kind.result (kind_of order message) c.in-Session.is c.kind.ensures);
    }
