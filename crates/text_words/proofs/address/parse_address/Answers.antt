use Rattle.std.proofs.Common.{ℕ, List, sym, subst}
use Rattle.std.specs.Net.Grammar.{IsIpv4Text}
use Rattle.std.specs.Net.Socket.{v4_ip, v4_port}
use Rattle.text_words.specs.Words.{IsPositive}
use Rattle.text_words.proofs.Addresses.{parts}
use Rattle.text_words.proofs.address.parse_address.Goals as goal

pub returns-in_default-parse_ascii-clause-none : goal.returns-in_default-parse_ascii-clause-none
returns-in_default-parse_ascii-clause-none c a h =
    let p = parts c.args.text.now c.in-Some.host.now c.in-Some.port.now a c.in-Some.ensures.found c.in-Some.ensures.first h in
    c.in_default-parse_ascii.ensures (v4_ip a) (subst (λ (t : List ℕ). IsIpv4Text t (v4_ip a)) (sym p.0) h.address)

pub returns-in-None-clause-none : goal.returns-in-None-clause-none
returns-in-None-clause-none c a h =
    let p = parts c.args.text.now c.in-Some.host.now c.in-Some.port.now a c.in-Some.ensures.found c.in-Some.ensures.first h in
    c.in-None.ensures.none (v4_port a) (subst (λ (t : List ℕ). IsPositive t (v4_port a)) (sym p.1) h.port)
