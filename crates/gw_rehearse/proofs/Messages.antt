-- Each message of a sender is that of an application.
use Rattle.std.proofs.Common.{◌≡◌, ◌≤◌, ◌<◌, ℕ, true, false, Bool, ◌+◌, ◌*◌, ◌%◌, ◌^◌, nat_le, List, [], ◌∷◌, ◌++◌, length, Result, Ok, Err, refl, sym, subst, arith}
use Rattle.std.specs.Prelude.{IfOk, if◌then◌else◌}
use Rattle.std.specs.Int.{w16, w32, w64, to_le_bytes}
use Rattle.sbe_prim.specs.declared.Order.TheVariants.{Little}
use Rattle.fixp_msgs.specs.Payload.{IsApplication}
use Rattle.gw_rehearse.specs.Payloads.{front_of, terms_of, message_of}

-- the message, where it is asked whether the version is 2
abbrev message_by : Bool → (version sender number : ℕ) → List ℕ
message_by later version sender number =
    ((if later then 33 else 29) ∷ 0 ∷ 1 ∷ 0 ∷ 100 ∷ 0 ∷ version ∷ 0 ∷ [])
    ++ (front_of sender number ++ terms_of sender number ++ (if later then to_le_bytes w32 sender else []))
    ++ (((if later then 7 else 5) ∷ 0 ∷ 1 ∷ 0 ∷ 1 ∷ [])
    ++ to_le_bytes w32 sender
    ++ (if later then to_le_bytes w16 (number % 1000) ++ (2 ∷ 0 ∷ 0 ∷ 0 ∷ []) else []))

by_version : (later : Bool) (version sender number : ℕ) → IsApplication (235 ∷ 80 ∷ message_by later version sender number)
by_version true version sender number =
    let long : length (message_by true version sender number) ≡ 56 = refl in
    record {
      frame = record { order = Little; message = message_by true version sender number };
      admissible = record { least = omega (arith, long); most = omega (arith, long) };
      application = refl;
      spelled = refl;
    }
by_version false version sender number =
    let long : length (message_by false version sender number) ≡ 46 = refl in
    record {
      frame = record { order = Little; message = message_by false version sender number };
      admissible = record { least = omega (arith, long); most = omega (arith, long) };
      application = refl;
      spelled = refl;
    }

pub is_application : (version sender number : ℕ) → IsApplication (message_of version sender number)
is_application version sender number = by_version (nat_le 2 version) version sender number

pub are_applications : {E : Type 0} (r : Result (List ℕ) E) (version sender number : ℕ) → IfOk r (λ bytes. bytes ≡ message_of version sender number) → IfOk r (λ bytes. IsApplication bytes)
are_applications (Ok bytes) version sender number is = subst IsApplication (sym is) (is_application version sender number)
are_applications (Err error) version sender number is = tt
