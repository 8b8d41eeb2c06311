use Rattle.std.proofs.Common.{◌≡◌, ℕ, length, ap, sym, ◌∙◌, arith}
use Rattle.cmd_datagram.specs.Delivered.{payloads_of}
use Rattle.cmd_datagram.proofs.Payloads.{length-payloads_of}
use Rattle.cmd_datagram.proofs.command.packed.Goals as goal

pub datagrams-requires-clause-few : goal.datagrams-requires-clause-few
datagrams-requires-clause-few c =
    let count : length c.in_ok-payloads.payloads ≡ c.args.script.now.messages = ap length c.in_ok-payloads.ensures ∙ length-payloads_of c.args.script.now.messages in
    omega (arith, count, c.requires.messages)

pub datagrams-requires-clause-messages : goal.datagrams-requires-clause-messages
datagrams-requires-clause-messages c =
    let count : length c.in_ok-payloads.payloads ≡ c.args.script.now.messages = ap length c.in_ok-payloads.ensures ∙ length-payloads_of c.args.script.now.messages in
    c.in_ok-payloads.ensures ∙ ap payloads_of (sym count)
