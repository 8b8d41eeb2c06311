-- Each configuration that a text spells fits the machine.
use Rattle.std.proofs.Common.{◌≡◌, ℕ, ◌≤◌, nat_le, Bool, true, false, ◌==◌, ◌&&◌, if◌then◌else◌, List, [], length, take, drop, Option, Some, None, Result, Ok, Err, codes, ℤ, pos, negsuc, refl, ap, subst, arith}
use Rattle.std.proofs.lemmas.Bool.Decides.{nat_tests}
use Rattle.std.specs.List.{list_all}
use Rattle.uuid.specs.Text.{parsed, parsed_simple, parsed_hyphenated, parsed_braced, parsed_urn, by_index, byte_of_digits, is_hex_digit, digits_of, has_hyphens}
use Rattle.uuid.proofs.TextLemmas.{by_index_length}
use Rattle.toml.specs.Data.{Data, as_str, get}
use Rattle.sbe_value.specs.declared.path.Step.{Step}
use Rattle.sbe_value.specs.declared.path.Step.TheVariants.{Key}
use Rattle.toml_walk.specs.declared.fault.TomlFault.TheVariants.{Range}
use Rattle.toml_walk.specs.Reading.{Read, ◌>>=◌, under}
use Rattle.toml_walk.specs.Documents.{document_of}
use Rattle.toml_walk.specs.Keys.{required, required_of, get_or_default, deny_unknown_keys}
use Rattle.toml_walk.specs.Values.{natural_of, between, number_of, listed, text_of_string}
use Rattle.schema_toml.specs.Faults.{of_text, text_limit}
use Rattle.schema_toml.specs.declared.fault.ConfigFault.{ConfigFault}
use Rattle.cmd_config.specs.declared.purpose.Purpose.{Purpose}
use Rattle.cmd_config.specs.declared.purpose.Purpose.TheVariants.{Live}
use Rattle.cmd_config.specs.declared.configuration.Link.{Link}
use Rattle.cmd_config.specs.declared.configuration.Configuration.{Configuration}
use Rattle.cmd_config.specs.Settings.{session_of, flow_of, credentials_of, known_keys, ensure_in_range, allows_client, allows_server, link_of, trade_of, version_of, book_of, configuration_of, configuration_of_document}
use Rattle.cmd_config.proofs.Readings.{credentials_le}
use Rattle.run_laws.specs.Pieces.{LinkFits, ConfigurationsFit}

-- ---- a session has 16 bytes

record HasSixteen (o : Option (List ℕ)) : Type 0 where
  each : (bytes : List ℕ) → o ≡ Some bytes → length bytes ≡ 16

none_sixteen : HasSixteen None
none_sixteen = record { each = λ bytes e. absurd cc }

either_sixteen : (b : Bool) (o p : Option (List ℕ)) → HasSixteen o → HasSixteen p → HasSixteen (if b then o else p)
either_sixteen true o p x y = x
either_sixteen false o p x y = y

some_sixteen : (bytes : List ℕ) → length bytes ≡ 16 → HasSixteen (Some bytes)
some_sixteen bytes h = record { each = λ given e. let same : bytes ≡ given = cc in subst (λ (xs : List ℕ). length xs ≡ 16) same h }

simple_sixteen : (hex : List ℕ) → HasSixteen (parsed_simple hex)
simple_sixteen hex = either_sixteen ((length hex == 32) && list_all is_hex_digit hex) (Some (by_index 16 (byte_of_digits hex))) None
    (some_sixteen (by_index 16 (byte_of_digits hex)) (by_index_length 16 (byte_of_digits hex))) none_sixteen

hyphenated_sixteen : (s : List ℕ) → HasSixteen (parsed_hyphenated s)
hyphenated_sixteen s = either_sixteen ((length s == 36) && has_hyphens s) (parsed_simple (digits_of s)) None (simple_sixteen (digits_of s)) none_sixteen

braced_sixteen : (s : List ℕ) → HasSixteen (parsed_braced s)
braced_sixteen s = either_sixteen _ (parsed_hyphenated (take 36 (drop 1 s))) None (hyphenated_sixteen (take 36 (drop 1 s))) none_sixteen

urn_sixteen : (s : List ℕ) → HasSixteen (parsed_urn s)
urn_sixteen s = either_sixteen _ (parsed_hyphenated (drop 9 s)) None (hyphenated_sixteen (drop 9 s)) none_sixteen

parsed_sixteen : (s : List ℕ) → HasSixteen (parsed s)
parsed_sixteen s =
    either_sixteen (length s == 32) (parsed_simple s) _ (simple_sixteen s)
    (either_sixteen (length s == 36) (parsed_hyphenated s) _ (hyphenated_sixteen s)
    (either_sixteen (length s == 38) (parsed_braced s) _ (braced_sixteen s)
    (either_sixteen (length s == 45) (parsed_urn s) None (urn_sixteen s) none_sixteen)))

listed_sixteen : (o : Option (List ℕ)) (bytes : List ℕ) → HasSixteen o → listed o ≡ Ok bytes → length bytes ≡ 16
listed_sixteen None bytes h e = absurd cc
listed_sixteen (Some given) bytes h e = let same : given ≡ bytes = cc in h.each bytes (ap (λ (xs : List ℕ). Some xs) same)

text_sixteen : (o : Option (List ℕ)) (bytes : List ℕ) → (text_of_string o >>= (λ text. listed (parsed text))) ≡ Ok bytes → length bytes ≡ 16
text_sixteen None bytes e = absurd cc
text_sixteen (Some text) bytes e = listed_sixteen (parsed text) bytes (parsed_sixteen text) e

under_ok : {A : Type 0} (step : Step) (r : Read A) (a : A) → under step r ≡ Ok a → r ≡ Ok a
under_ok step (Ok b) a e = e
under_ok step (Err fault) a e = absurd cc

key_sixteen : (o : Option Data) (bytes : List ℕ) → required_of (codes "session") session_of o ≡ Ok bytes → length bytes ≡ 16
key_sixteen None bytes e = absurd cc
key_sixteen (Some d) bytes e = text_sixteen (as_str d) bytes (under_ok (Key (codes "session")) (session_of d) bytes e)

-- ---- a number is in its range

between_most : (least most : ℕ) (z : ℤ) (n : ℕ) → between least most z ≡ Ok n → n ≤ most
between_most least most (pos k) n e = by_test (nat_le least k) (nat_le k most) refl e
  where
    by_test : (a b : Bool) → nat_le k most ≡ b → (if (a && b) then Ok k else Err (Range [])) ≡ Ok n → n ≤ most
    by_test false b is f = absurd cc
    by_test true false is f = absurd cc
    by_test true true is f = let same : k ≡ n = cc in subst (λ (j : ℕ). j ≤ most) same (grind (arith, nat_tests))
between_most least most (negsuc k) n e = absurd cc

natural_most : (least most : ℕ) (r : Read ℤ) (n : ℕ) → (r >>= between least most) ≡ Ok n → n ≤ most
natural_most least most (Ok z) n e = between_most least most z n e
natural_most least most (Err fault) n e = absurd cc

between_least : (least most : ℕ) (z : ℤ) (n : ℕ) → between least most z ≡ Ok n → least ≤ n
between_least least most (pos k) n e = by_test (nat_le least k) (nat_le k most) refl e
  where
    by_test : (a b : Bool) → nat_le least k ≡ a → (if (a && b) then Ok k else Err (Range [])) ≡ Ok n → least ≤ n
    by_test false b is f = absurd cc
    by_test true false is f = absurd cc
    by_test true true is f = let same : k ≡ n = cc in subst (λ (j : ℕ). least ≤ j) same (grind (arith, nat_tests))
between_least least most (negsuc k) n e = absurd cc

natural_least : (least most : ℕ) (r : Read ℤ) (n : ℕ) → (r >>= between least most) ≡ Ok n → least ≤ n
natural_least least most (Ok z) n e = between_least least most z n e
natural_least least most (Err fault) n e = absurd cc

key_least : (key : List ℕ) (least most : ℕ) (o : Option Data) (n : ℕ) → required_of key (natural_of least most) o ≡ Ok n → least ≤ n
key_least key least most None n e = absurd cc
key_least key least most (Some d) n e = natural_least least most (number_of d) n (under_ok (Key key) (natural_of least most d) n e)

key_most : (key : List ℕ) (least most : ℕ) (o : Option Data) (n : ℕ) → required_of key (natural_of least most) o ≡ Ok n → n ≤ most
key_most key least most None n e = absurd cc
key_most key least most (Some d) n e = natural_most least most (number_of d) n (under_ok (Key key) (natural_of least most d) n e)

-- ---- the link

-- what was read, and what follows it
record Got {A B : Type 0} (first : Read A) (next : A → Read B) (b : B) : Type 0 where
  value : A
  is : first ≡ Ok value
  goes_on : next value ≡ Ok b

got : {A B : Type 0} (first : Read A) (next : A → Read B) (b : B) → (first >>= next) ≡ Ok b → Got first next b
got (Ok a) next b e = record { value = a; is = refl; goes_on = e }
got (Err fault) next b e = absurd cc

link_fits : (purpose : Purpose) (keys : Data) (link : Link) → link_of purpose keys ≡ Ok link → LinkFits link
link_fits purpose keys link e =
    let session = got (required (codes "session") session_of keys) _ link e in
    let keepalive = got (required (codes "keepalive") (natural_of 100 60000) keys) _ link session.goes_on in
    let client = got (required (codes "client_flow") flow_of keys) _ link keepalive.goes_on in
    let client_in = got (ensure_in_range (codes "client_flow") (allows_client purpose client.value)) _ link client.goes_on in
    let server = got (required (codes "server_flow") flow_of keys) _ link client_in.goes_on in
    let server_in = got (ensure_in_range (codes "server_flow") (allows_server purpose server.value)) _ link server.goes_on in
    let credentials = got (get_or_default (codes "credentials") [] credentials_of keys) _ link server_in.goes_on in
    let built : Link = record { session = session.value; keepalive = keepalive.value; client_flow = client.value; server_flow = server.value; credentials = credentials.value; version = 1 } in
    let last = credentials.goes_on in
    let same : built ≡ link = cc in
    subst LinkFits same (record {
      session = key_sixteen (get (codes "session") keys) session.value session.is;
      interval = key_least (codes "keepalive") 100 60000 (get (codes "keepalive") keys) keepalive.value keepalive.is;
      keepalive = key_most (codes "keepalive") 100 60000 (get (codes "keepalive") keys) keepalive.value keepalive.is;
      credentials = credentials_le keys credentials.value credentials.is;
    })

-- whichever version it speaks
versioned : (link : Link) (version : ℕ) → LinkFits link → LinkFits (record link { version = version })
versioned link version f = record { session = f.session; interval = f.interval; keepalive = f.keepalive; credentials = f.credentials }

keys_fit : (purpose : Purpose) (keys : Data) (c : Configuration) → configuration_of purpose keys ≡ Ok c → LinkFits c.link
keys_fit purpose keys c e =
    let link = got (link_of purpose keys) _ c e in
    let trade = got (trade_of purpose link.value.client_flow link.value.server_flow keys) _ c link.goes_on in
    let version = got (version_of keys) _ c trade.goes_on in
    let book = got (book_of purpose trade.value.desks keys) _ c version.goes_on in
    let known = got (deny_unknown_keys (known_keys purpose) keys) _ c book.goes_on in
    let built : Configuration = record { link = record link.value { version = version.value }; trade = record trade.value { book = book.value } } in
    let last = known.goes_on in
    let same : built ≡ c = cc in
    subst (λ (d : Configuration). LinkFits d.link) same (versioned link.value version.value (link_fits purpose keys link.value link.is))

document_fits : (purpose : Purpose) (text : List ℕ) (c : Configuration) → configuration_of_document purpose text ≡ Ok c → LinkFits c.link
document_fits purpose text c e = let document = got (document_of text) (configuration_of purpose) c e in keys_fit purpose document.value c document.goes_on

text_fits : (r : Read Configuration) (c : Configuration) → of_text r ≡ Ok c → r ≡ Ok c
text_fits (Ok d) c e = let same : d ≡ c = cc in ap (λ (x : Configuration). Ok x) same
text_fits (Err fault) c e = absurd cc

limited_fits : (b : Bool) (r : Result Configuration ConfigFault) (fault : ConfigFault) (c : Configuration) → (if b then r else Err fault) ≡ Ok c → r ≡ Ok c
limited_fits true r fault c e = e
limited_fits false r fault c e = absurd cc

pub configurations_fit : ConfigurationsFit
configurations_fit role text c e =
    document_fits (Live role) text c (text_fits (configuration_of_document (Live role) text) c
    (limited_fits (nat_le (length text) text_limit) (of_text (configuration_of_document (Live role) text)) _ c e))
