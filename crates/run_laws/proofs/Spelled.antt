-- Texts that spell the configurations of the samples, computed.
use Rattle.std.proofs.Common.{◌≡◌, Ok, refl}
use lib.Utf8.{encode}
use Rattle.std.specs.Str.{chars, is_utf8}
use Rattle.std.specs.Float.Numeral.{scan_numeral}
use Rattle.uuid.specs.Text.{by_index}
use Rattle.toml_parser.specs.Lexical.{skip_ws, skip_from}
use Rattle.toml_parser.specs.Strings.{hex_escape, escape_char, escape, special, body, one_line, quoted, simple_key, key_after}
use Rattle.toml_parser.specs.Numbers.{underscore_fits, prefixed_integer, decimal_number, plain_number, number, word_value, word_len, unquoted}
use Rattle.toml.specs.Tables.{along_header, along_dots, at_key, define}
use Rattle.toml.specs.Parse.{after_element, key_equals, items, members, atom, val, header_key, expression, line, lines, skip_bom, parse_document}
use Rattle.fixp_shake.specs.declared.config.Role.TheVariants.{Initiator, Acceptor}
use Rattle.cmd_session.specs.Inputs.{configuration_at}
use Rattle.run_laws.specs.Samples.{configured, config_text}
use Rattle.run_laws.specs.DeskSamples.{with_desks, desks_text}
use Rattle.run_laws.specs.TimedSamples.{later_configured, later_text}

pub spelled_initiator : configuration_at Initiator config_text ≡ Ok configured
unfolding encode scan_numeral chars is_utf8 by_index skip_ws skip_from hex_escape escape_char escape special body one_line quoted simple_key key_after underscore_fits prefixed_integer decimal_number plain_number number word_value word_len unquoted along_header along_dots at_key define after_element key_equals items members atom val header_key expression line lines skip_bom parse_document
spelled_initiator = refl

pub spelled_acceptor : configuration_at Acceptor config_text ≡ Ok configured
unfolding encode scan_numeral chars is_utf8 by_index skip_ws skip_from hex_escape escape_char escape special body one_line quoted simple_key key_after underscore_fits prefixed_integer decimal_number plain_number number word_value word_len unquoted along_header along_dots at_key define after_element key_equals items members atom val header_key expression line lines skip_bom parse_document
spelled_acceptor = refl

pub spelled_with_desks : configuration_at Acceptor desks_text ≡ Ok with_desks
unfolding encode scan_numeral chars is_utf8 by_index skip_ws skip_from hex_escape escape_char escape special body one_line quoted simple_key key_after underscore_fits prefixed_integer decimal_number plain_number number word_value word_len unquoted along_header along_dots at_key define after_element key_equals items members atom val header_key expression line lines skip_bom parse_document
spelled_with_desks = refl

pub spelled_later : configuration_at Initiator later_text ≡ Ok later_configured
unfolding encode scan_numeral chars is_utf8 by_index skip_ws skip_from hex_escape escape_char escape special body one_line quoted simple_key key_after underscore_fits prefixed_integer decimal_number plain_number number word_value word_len unquoted along_header along_dots at_key define after_element key_equals items members atom val header_key expression line lines skip_bom parse_document
spelled_later = refl
