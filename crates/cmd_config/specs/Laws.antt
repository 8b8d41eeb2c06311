-- What a configuration that is read keeps, and which unknown key is reported.
use Rattle.std.specs.Prelude.{◌≡◌, ◌⊎◌, ℕ, false, IsTrue, Some, List, [], ◌∷◌, Ok, Err}
use Rattle.std.specs.Ordering.{nat_cmp}
use Rattle.std.specs.Cmp.Lexicographic.{slice_cmp}
use Rattle.std.specs.declared.cmp.Ordering.TheVariants.{Less}
use Rattle.sbe_value.specs.declared.path.Step.TheVariants.{Key}
use Rattle.toml.specs.Data.{Data, string, integer, float, boolean, datetime, array, table, Items, no_items, item, Members, no_members, member}
use Rattle.toml.specs.Parse.{parse_document}
use Rattle.toml_walk.specs.declared.fault.TomlFault.TheVariants.{UnknownKey}
use Rattle.toml_walk.specs.Keys.{is_among, deny_unknown_keys}
use Rattle.cmd_config.specs.declared.purpose.Purpose.{Purpose}
use Rattle.cmd_config.specs.declared.configuration.Configuration.{Configuration}
use Rattle.cmd_config.specs.Settings.{allows_client, allows_server, allows_senders, allows_desks, allows_book, role_of, own_flow, configuration_of}

-- what the role that a configuration is for asks of the flows, the senders, the desks and the book, said of the values that were read
pub record KeepsRole (purpose : Purpose) (c : Configuration) : Type 0 where
  pub client : IsTrue (allows_client purpose c.link.client_flow)
  pub server : IsTrue (allows_server purpose c.link.server_flow)
  pub senders : IsTrue (allows_senders (own_flow (role_of purpose) c.link.client_flow c.link.server_flow) c.trade.senders)
  pub desks : IsTrue (allows_desks purpose c.link.server_flow false c.trade.desks)
  pub book : IsTrue (allows_book c.trade.desks c.trade.book)

-- Each configuration that a table gives for a role, on live connections or over recorded bytes, keeps what the role asks
abbrev pub ConfigurationsKeepTheRole : Type 0
ConfigurationsKeepTheRole = (purpose : Purpose) (keys : Data) (c : Configuration) → configuration_of purpose keys ≡ Ok c → KeepsRole purpose c

-- a key stands in a table
abbrev pub HasKey : Members → List ℕ → Type 0
HasKey no_members key = ⊥
HasKey (member k d ms) key = (k ≡ key) ⊎ HasKey ms key

-- one key comes before another by its bytes, or is the same
abbrev pub IsAtMost : List ℕ → List ℕ → Type 0
IsAtMost a b = (a ≡ b) ⊎ (slice_cmp nat_cmp a b ≡ Less)

-- a table is some data, or lies in it at any depth
abbrev mutual
  pub LiesIn : Members → Data → Type 0
  LiesIn keys (table ms) = (keys ≡ ms) ⊎ LiesInMembers keys ms
  LiesIn keys (array ds) = LiesInItems keys ds
  LiesIn keys (string s) = ⊥
  LiesIn keys (integer z) = ⊥
  LiesIn keys (float x) = ⊥
  LiesIn keys (boolean b) = ⊥
  LiesIn keys (datetime d) = ⊥

  pub LiesInItems : Members → Items → Type 0
  LiesInItems keys no_items = ⊥
  LiesInItems keys (item d ds) = LiesIn keys d ⊎ LiesInItems keys ds

  pub LiesInMembers : Members → Members → Type 0
  LiesInMembers keys no_members = ⊥
  LiesInMembers keys (member k d ms) = LiesIn keys d ⊎ LiesInMembers keys ms

-- Of each table of a document, the unknown key that is reported is one of its keys, is not known, and is the least such key by its bytes
abbrev pub UnknownKeyIsLeast : Type 0
UnknownKeyIsLeast = (known : List (List ℕ)) (text : List ℕ) (document keys : Members) → parse_document text ≡ Some document → LiesIn keys (table document)
    → (key : List ℕ) → deny_unknown_keys known (table keys) ≡ Err (UnknownKey (Key key ∷ []))
    → HasKey keys key × (is_among key known ≡ false) × ((other : List ℕ) → HasKey keys other → is_among other known ≡ false → IsAtMost key other)
