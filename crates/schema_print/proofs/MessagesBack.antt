-- Messages: what is written of a message that was read is read as it.
use Rattle.std.proofs.Common.{◌≡◌, ℕ, ◌+◌, Bool, true, false, cond, ℤ, pos, [], ◌∷◌, Some, None, Ok, Err, codes, refl, sym, subst, ◌∙◌}
use Rattle.sbe_value.specs.declared.path.Step.{Step}
use Rattle.sbe_value.specs.declared.path.Step.TheVariants.{Key, At}
use Rattle.sbe_prim.specs.declared.Primitive.TheVariants.{UInt16}
use Rattle.schema_types.specs.Groups.{GroupTree, no_groups, group}
use Rattle.schema_types.specs.declared.types.Presence.TheVariants.{Required}
use Rattle.schema_types.specs.declared.messages.FieldDef.{FieldDef}
use Rattle.schema_types.specs.declared.messages.DataDef.{DataDef}
use Rattle.schema_types.specs.declared.messages.MessageDef.{MessageDef}
use Rattle.toml.specs.Data.{Data, string, integer, float, boolean, datetime, array, table, Items, no_items, item, Members, no_members, member, same_key}
use Rattle.toml.specs.View.{items_of}
use Rattle.toml_walk.specs.Reading.{Read, ◌>>=◌, under}
use Rattle.toml_walk.specs.Keys.{list_of}
use Rattle.toml_walk.specs.Values.{name_of, number_of}
use Rattle.schema_toml.specs.Words.{primitive_of, presence_of, constant_of}
use Rattle.schema_toml.specs.declared.messages.Parent.{Parent}
use Rattle.schema_toml.specs.declared.groups.Start.{Start}
use Rattle.schema_toml.specs.declared.groups.Inside.{Inside}
use Rattle.schema_toml.specs.Messages.{own_of, start_of, inside_of, head_with, group_by_keys, id_of, field_keys, field_of, data_keys, datum_of, GroupRead, group_keys, group_of, groups_in, groups_of, groups_from, message_keys, message_of}
use Rattle.schema_print.specs.Written.{Pairs, table_by, text_data, field_pairs, field_data, datum_pairs, datum_data, group_pairs, group_data, groups_list, groups_data, message_pairs, message_data, list_data, number_data, natural_data, presence_data, primitive_data, constant_data}
use Rattle.schema_toml.proofs.Nested.{group_is_by_keys}
use Rattle.schema_print.proofs.Sound.{Sound, SoundItems, SoundMembers}
use Rattle.schema_print.proofs.Steps.{Back, IfBack, bind_inv, under_inv, ok_value, table_inv, required_inv, get_or_default_inv, optional_inv, deny_unknown_keys_inv, required_is, get_or_default_is, optional_is, deny_unknown_keys_is, list_back}
use Rattle.schema_print.proofs.WithKeys.{found}
use Rattle.schema_print.proofs.WordsBack.{name_back, number_back, natural_back, presence_back, primitive_again, primitive_back, constant_back}

-- a number that is read again
abbrev Ready : ℤ → Type 0
Ready since = number_of (number_data since) ≡ Ok since

pub field_back : (since : ℤ) → Ready since → Back (field_of since) field_data
field_back since ready d x sound went =
    table_inv (field_keys since) d x sound went (λ ms sound went.
    required_inv (codes "name") name_of text_data ms sound _ x name_back went (λ name name_again went.
    required_inv (codes "id") id_of natural_data ms sound _ x (natural_back 0 65534) went (λ id id_again went.
    required_inv (codes "type") name_of text_data ms sound _ x name_back went (λ type_name type_name_again went.
    get_or_default_inv (codes "presence") Required presence_of presence_data ms sound _ x presence_back refl went (λ presence presence_again went.
    optional_inv (codes "value") constant_of constant_data ms sound _ x constant_back went (λ value value_again went.
    optional_inv (codes "offset") number_of number_data ms sound _ x number_back went (λ offset offset_again went.
    get_or_default_inv (codes "since") since number_of number_data ms sound _ x number_back ready went (λ own_since own_since_again went.
    let made : FieldDef = record { name = name; id = id; type_name = type_name; presence = presence; value = value; offset = offset; since = own_since } in
    let ps = field_pairs made in
    subst (λ (y : FieldDef). field_of since (field_data y) ≡ Ok y) (ok_value made x (deny_unknown_keys_inv (codes "name" ∷ codes "id" ∷ codes "type" ∷ codes "presence" ∷ codes "value" ∷ codes "offset" ∷ codes "since" ∷ []) ms _ x went))
    (rw (required_is (codes "name") name_of (text_data name) ps name refl name_again, required_is (codes "id") id_of (natural_data id) ps id refl id_again, required_is (codes "type") name_of (text_data type_name) ps type_name refl type_name_again, get_or_default_is (codes "presence") Required presence_of (presence_data presence) ps presence refl presence_again, optional_is (codes "value") constant_of constant_data ps value refl value_again, optional_is (codes "offset") number_of number_data ps offset refl offset_again, get_or_default_is (codes "since") since number_of (number_data own_since) ps own_since refl own_since_again, deny_unknown_keys_is (codes "name" ∷ codes "id" ∷ codes "type" ∷ codes "presence" ∷ codes "value" ∷ codes "offset" ∷ codes "since" ∷ []) ps refl) refl)))))))))

pub datum_back : (since : ℤ) → Ready since → Back (datum_of since) datum_data
datum_back since ready d x sound went =
    table_inv (data_keys since) d x sound went (λ ms sound went.
    required_inv (codes "name") name_of text_data ms sound _ x name_back went (λ name name_again went.
    required_inv (codes "id") id_of natural_data ms sound _ x (natural_back 0 65534) went (λ id id_again went.
    get_or_default_inv (codes "length") UInt16 primitive_of primitive_data ms sound _ x primitive_back (primitive_again UInt16) went (λ length length_again went.
    get_or_default_inv (codes "since") since number_of number_data ms sound _ x number_back ready went (λ own_since own_since_again went.
    let made : DataDef = record { name = name; id = id; length = length; since = own_since } in
    let ps = datum_pairs made in
    subst (λ (y : DataDef). datum_of since (datum_data y) ≡ Ok y) (ok_value made x (deny_unknown_keys_inv (codes "name" ∷ codes "id" ∷ codes "length" ∷ codes "since" ∷ []) ms _ x went))
    (rw (required_is (codes "name") name_of (text_data name) ps name refl name_again, required_is (codes "id") id_of (natural_data id) ps id refl id_again, get_or_default_is (codes "length") UInt16 primitive_of (primitive_data length) ps length refl length_again, get_or_default_is (codes "since") since number_of (number_data own_since) ps own_since refl own_since_again, deny_unknown_keys_is (codes "name" ∷ codes "id" ∷ codes "length" ∷ codes "since" ∷ []) ps refl) refl))))))

-- ---- groups

-- the version with which a message or a group came
own_inv : {B G : Type 0} (since : ℤ) (ms : Members) → Ready since → SoundMembers ms → (next : Parent → Read B) (b : B) → (own_of since (table ms) >>= next) ≡ Ok b
    → ((own : ℤ) → Ready own → next (record { since = own }) ≡ Ok b → G) → G
own_inv since ms ready sound next b went so =
    bind_inv (own_of since (table ms)) next b went (λ parent gives more.
    get_or_default_inv (codes "since") since number_of number_data ms sound _ parent number_back ready gives (λ own own_again last.
    so own own_again (subst (λ (h : Parent). next h ≡ Ok b) (sym (ok_value (record { since = own }) parent last)) more)))

own_is : (since : ℤ) (ps : Pairs) (own : ℤ) → found (codes "since") ps None ≡ Some (number_data own) → Ready own → own_of since (table_by ps) ≡ Ok (record { since = own })
own_is since ps own at again = rw (get_or_default_is (codes "since") since number_of (number_data own) ps own at again) refl

-- what stands before the fields of a group is read again
record StartAgain (start : Start) : Type 0 where
  name : name_of (text_data start.name) ≡ Ok start.name
  id : id_of (natural_data start.id) ≡ Ok start.id
  block_prim : primitive_of (primitive_data start.block_prim) ≡ Ok start.block_prim
  count_prim : primitive_of (primitive_data start.count_prim) ≡ Ok start.count_prim
  own : Ready start.own.since
  block_length : IfBack number_of number_data start.block_length

start_back : (since : ℤ) (ms : Members) (x : Start) → Ready since → SoundMembers ms → start_of since (table ms) ≡ Ok x → StartAgain x
start_back since ms x ready sound went =
    required_inv (codes "name") name_of text_data ms sound _ x name_back went (λ name name_again went.
    required_inv (codes "id") id_of natural_data ms sound _ x (natural_back 0 65534) went (λ id id_again went.
    get_or_default_inv (codes "block_prim") UInt16 primitive_of primitive_data ms sound _ x primitive_back (primitive_again UInt16) went (λ block_prim block_prim_again went.
    get_or_default_inv (codes "count_prim") UInt16 primitive_of primitive_data ms sound _ x primitive_back (primitive_again UInt16) went (λ count_prim count_prim_again went.
    own_inv since ms ready sound _ x went (λ own own_again went.
    optional_inv (codes "block_length") number_of number_data ms sound _ x number_back went (λ block_length block_length_again went.
    let made : Start = record { name = name; id = id; block_prim = block_prim; count_prim = count_prim; own = record { since = own }; block_length = block_length } in
    subst StartAgain (ok_value made x went)
    (record { name = name_again; id = id_again; block_prim = block_prim_again; count_prim = count_prim_again; own = own_again; block_length = block_length_again })))))))

-- what lies in a group is read again
record InsideAgain (since : ℤ) (inside : Inside) : Type 0 where
  fields : list_of (field_of since) (list_data field_data inside.fields) ≡ Ok inside.fields
  groups : groups_of since (groups_data inside.groups) ≡ Ok inside.groups
  vars : list_of (datum_of since) (list_data datum_data inside.vars) ≡ Ok inside.vars

inside_back : (inner : Read GroupTree) (since : ℤ) (ms : Members) (x : Inside) → Ready since → SoundMembers ms → ((tree : GroupTree) → inner ≡ Ok tree → groups_of since (groups_data tree) ≡ Ok tree)
    → inside_of inner since (table ms) ≡ Ok x → InsideAgain since x
inside_back inner since ms x ready sound inner_back went =
    get_or_default_inv (codes "fields") [] (list_of (field_of since)) (list_data field_data) ms sound _ x (list_back (field_of since) field_data (field_back since ready)) refl went (λ fields fields_again went.
    bind_inv inner _ x went (λ groups gives went.
    get_or_default_inv (codes "data") [] (list_of (datum_of since)) (list_data datum_data) ms sound _ x (list_back (datum_of since) datum_data (datum_back since ready)) refl went (λ vars vars_again went.
    let made : Inside = record { fields = fields; groups = groups; vars = vars } in
    subst (InsideAgain since) (ok_value made x (deny_unknown_keys_inv (codes "name" ∷ codes "id" ∷ codes "block_prim" ∷ codes "count_prim" ∷ codes "since" ∷ codes "block_length" ∷ codes "fields" ∷ codes "groups" ∷ codes "data" ∷ []) ms _ x went))
    (record { fields = fields_again; groups = inner_back groups gives; vars = vars_again }))))

-- a group is read again where its own groups are
group_again : (inner : ℤ → Read GroupTree) (since : ℤ) (ms : Members) (x : GroupRead) → Ready since → SoundMembers ms → ((own : ℤ) → Ready own → (tree : GroupTree) → inner own ≡ Ok tree → groups_of own (groups_data tree) ≡ Ok tree)
    → group_keys inner since (table ms) ≡ Ok x → group_of since (group_data x.0 (groups_data x.1)) ≡ Ok x
unfolding group_by_keys
group_again inner since ms x ready sound inner_back went =
    bind_inv (start_of since (table ms)) _ x went (λ start start_gives went.
    bind_inv (inside_of (inner start.own.since) start.own.since (table ms)) _ x went (λ inside inside_gives went.
    let first = start_back since ms start ready sound start_gives in
    let second = inside_back (inner start.own.since) start.own.since ms inside first.own sound (inner_back start.own.since first.own) inside_gives in
    let head = head_with start inside in
    let ps = group_pairs head (groups_data inside.groups) in
    subst (λ (y : GroupRead). group_of since (group_data y.0 (groups_data y.1)) ≡ Ok y) (ok_value (head, inside.groups) x went)
    (group_is_by_keys since (group_data head (groups_data inside.groups)) ∙ rw (required_is (codes "name") name_of (text_data start.name) ps start.name refl first.name, required_is (codes "id") id_of (natural_data start.id) ps start.id refl first.id, get_or_default_is (codes "block_prim") UInt16 primitive_of (primitive_data start.block_prim) ps start.block_prim refl first.block_prim, get_or_default_is (codes "count_prim") UInt16 primitive_of (primitive_data start.count_prim) ps start.count_prim refl first.count_prim, own_is since ps start.own.since refl first.own, optional_is (codes "block_length") number_of number_data ps start.block_length refl first.block_length, get_or_default_is (codes "fields") [] (list_of (field_of start.own.since)) (list_data field_data inside.fields) ps inside.fields refl second.fields, get_or_default_is (codes "groups") no_groups (groups_of start.own.since) (groups_data inside.groups) ps inside.groups refl second.groups, get_or_default_is (codes "data") [] (list_of (datum_of start.own.since)) (list_data datum_data inside.vars) ps inside.vars refl second.vars, deny_unknown_keys_is (codes "name" ∷ codes "id" ∷ codes "block_prim" ∷ codes "count_prim" ∷ codes "since" ∷ codes "block_length" ∷ codes "fields" ∷ codes "groups" ∷ codes "data" ∷ []) ps refl) refl)))

in_by : {G : Type 0} (found : Bool) (step : Step) (here behind : Read GroupTree) (tree : GroupTree) → cond found (under step here) behind ≡ Ok tree
    → (here ≡ Ok tree → G) → (behind ≡ Ok tree → G) → G
in_by true step (Ok a) behind tree went first second = first went
in_by true step (Err fault) behind tree went first second = absurd cc
in_by false step here behind tree went first second = second went

mutual
  group_back : (since : ℤ) → Ready since → (d : Data) (x : GroupRead) → Sound d → group_of since d ≡ Ok x → group_of since (group_data x.0 (groups_data x.1)) ≡ Ok x
  group_back since ready (table keys) x sound went = group_again (λ own. groups_in own keys) since keys x ready sound (λ own own_ready tree gives. in_back own own_ready keys tree sound gives) went
  group_back since ready (array ds) x sound went = absurd cc
  group_back since ready (string s) x sound went = absurd cc
  group_back since ready (integer z) x sound went = absurd cc
  group_back since ready (float y) x sound went = absurd cc
  group_back since ready (boolean y) x sound went = absurd cc
  group_back since ready (datetime y) x sound went = absurd cc

  in_back : (since : ℤ) → Ready since → (keys : Members) (tree : GroupTree) → SoundMembers keys → groups_in since keys ≡ Ok tree → groups_of since (groups_data tree) ≡ Ok tree
  in_back since ready no_members tree sound went = subst (λ (t : GroupTree). groups_of since (groups_data t) ≡ Ok t) (ok_value no_groups tree went) refl
  in_back since ready (member key d keys) tree sound went =
      in_by (same_key (codes "groups") key) (Key (codes "groups")) (groups_of since d) (groups_in since keys) tree went (λ gives. groups_back since ready d tree sound.0 gives) (λ gives. in_back since ready keys tree sound.1 gives)

  pub groups_back : (since : ℤ) → Ready since → (d : Data) (tree : GroupTree) → Sound d → groups_of since d ≡ Ok tree → groups_of since (groups_data tree) ≡ Ok tree
  groups_back since ready (array ds) tree sound went = from_back since ready 0 ds tree sound went
  groups_back since ready (table keys) tree sound went = absurd cc
  groups_back since ready (string s) tree sound went = absurd cc
  groups_back since ready (integer z) tree sound went = absurd cc
  groups_back since ready (float y) tree sound went = absurd cc
  groups_back since ready (boolean y) tree sound went = absurd cc
  groups_back since ready (datetime y) tree sound went = absurd cc

  from_back : (since : ℤ) → Ready since → (at : ℕ) (ds : Items) (tree : GroupTree) → SoundItems ds → groups_from since at ds ≡ Ok tree → groups_from since at (items_of (groups_list tree)) ≡ Ok tree
  from_back since ready at no_items tree sound went = subst (λ (t : GroupTree). groups_from since at (items_of (groups_list t)) ≡ Ok t) (ok_value no_groups tree went) refl
  from_back since ready at (item d ds) tree sound went =
      under_inv (At at) (group_of since d) _ tree went (λ x gives went.
      bind_inv (groups_from since (at + 1) ds) _ tree went (λ rest gives_on went.
      subst (λ (t : GroupTree). groups_from since at (items_of (groups_list t)) ≡ Ok t) (ok_value (group x.0 x.1 rest) tree went)
      (rw (group_back since ready d x sound.0 gives, from_back since ready (at + 1) ds rest sound.1 gives_on) refl)))

-- ---- messages

pub message_back : Back message_of message_data
message_back d x sound went =
    table_inv message_keys d x sound went (λ ms sound went.
    required_inv (codes "name") name_of text_data ms sound _ x name_back went (λ name name_again went.
    required_inv (codes "id") id_of natural_data ms sound _ x (natural_back 0 65534) went (λ id id_again went.
    own_inv (pos 0) ms refl sound _ x went (λ since since_again went.
    optional_inv (codes "block_length") number_of number_data ms sound _ x number_back went (λ block_length block_length_again went.
    get_or_default_inv (codes "fields") [] (list_of (field_of since)) (list_data field_data) ms sound _ x (list_back (field_of since) field_data (field_back since since_again)) refl went (λ fields fields_again went.
    get_or_default_inv (codes "groups") no_groups (groups_of since) groups_data ms sound _ x (groups_back since since_again) refl went (λ groups groups_again went.
    get_or_default_inv (codes "data") [] (list_of (datum_of since)) (list_data datum_data) ms sound _ x (list_back (datum_of since) datum_data (datum_back since since_again)) refl went (λ vars vars_again went.
    let made : MessageDef = record { name = name; id = id; since = since; block_length = block_length; fields = fields; groups = groups; vars = vars } in
    let ps = message_pairs made in
    subst (λ (y : MessageDef). message_of (message_data y) ≡ Ok y) (ok_value made x (deny_unknown_keys_inv (codes "name" ∷ codes "id" ∷ codes "since" ∷ codes "block_length" ∷ codes "fields" ∷ codes "groups" ∷ codes "data" ∷ []) ms _ x went))
    (rw (required_is (codes "name") name_of (text_data name) ps name refl name_again, required_is (codes "id") id_of (natural_data id) ps id refl id_again, own_is (pos 0) ps since refl since_again, optional_is (codes "block_length") number_of number_data ps block_length refl block_length_again, get_or_default_is (codes "fields") [] (list_of (field_of since)) ((list_data field_data) fields) ps fields refl fields_again, get_or_default_is (codes "groups") no_groups (groups_of since) (groups_data groups) ps groups refl groups_again, get_or_default_is (codes "data") [] (list_of (datum_of since)) ((list_data datum_data) vars) ps vars refl vars_again, deny_unknown_keys_is (codes "name" ∷ codes "id" ∷ codes "since" ∷ codes "block_length" ∷ codes "fields" ∷ codes "groups" ∷ codes "data" ∷ []) ps refl) refl)))))))))
