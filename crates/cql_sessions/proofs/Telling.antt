-- Lemmas on the reply in hand.
use Rattle.std.proofs.Common.{◌≡◌, ℕ, ◌-◌, ◌+◌, Bool, true, false, List, [], ◌∷◌, ◌++◌, length, refl, sym, ap, subst, ◌∙◌, append-nil, length-append, arith, inl, inr}
use Rattle.std.specs.Prelude.{Option, Some, None, Result, Ok, option_map, if◌then◌else◌}
use Rattle.std.specs.Arc.{arc_value}
use Rattle.std.specs.List.{slice_get}
use Rattle.std.proofs.lemmas.Option.{slice_get-get_or}
use Rattle.std.proofs.Math.Seq.{get_or-append_seam}
use Rattle.cql_core.specs.declared.command.Command.{Command}
use Rattle.cql_core.specs.Steps.{reply_model}
use Rattle.cql_asked.specs.declared.fault.LineFault.TheVariants.{NoMemory}
use Rattle.cql_hall.specs.declared.hall.Receipt.{Receipt}
use Rattle.cql_lines.specs.declared.watched.WriteFault.{WriteFault}
use Rattle.cql_wire.specs.Buffered.{BuffersReply, Buffers}
use Rattle.cql_wire.specs.Line.{told_line, fault_line}
use Rattle.cql_wire.specs.declared.held_reply.HeldReply.{HeldReply}
use Rattle.cql_sessions.specs.Answering.{Account}
use Rattle.cql_sessions.specs.InHand.{to_come, last_reply, TellsLine}

-- no call was made, and nothing is in hand
pub told_no_memory : (keeps : Bool) (old new : Account) (command : Command) (a b : Option (List ℕ)) (held left : List ℕ) (hand : Option HeldReply) (r : Result (Unit {0}) WriteFault)
    → new ≡ old → hand ≡ None → Buffers a b (held ++ fault_line NoMemory) left r
    → TellsLine keeps old new (Ok command) a b held (left ++ to_come hand (last_reply new.receipts)) r
told_no_memory keeps old new command a b held left hand r same none buffers =
    let rest : left ++ to_come hand (last_reply new.receipts) ≡ left = ap (λ h. left ++ to_come h (last_reply new.receipts)) none ∙ append-nil left in
    (fault_line NoMemory, inl (NoMemory, tt, refl, same), subst (λ l. Buffers a b (held ++ fault_line NoMemory) l r) (sym rest) buffers)

last_of_more : (receipts : List Receipt) (receipt : Receipt) → last_reply (receipts ++ receipt ∷ []) ≡ Some receipt.reply
last_of_more receipts receipt =
    let all = receipts ++ receipt ∷ [] in
    let long : length all ≡ length receipts + 1 = length-append receipts (receipt ∷ []) in
    let at : length all - 1 ≡ length receipts = omega (arith, long) in
    let within = slice_get-get_or all (length receipts) receipt (omega (arith, long)) in
    ap (λ n. option_map (λ r. r.reply) (slice_get all n)) at
    ∙ ap (option_map (λ r. r.reply)) (within ∙ ap Some (get_or-append_seam receipts receipt [] receipt))

-- a call was made whose receipt is kept
pub told_kept : (keeps : Bool) (old new : Account) (command : Command) (receipt : Receipt) (a b : Option (List ℕ)) (held left : List ℕ) (hand : Option HeldReply) (r : Result (Unit {0}) WriteFault)
    → keeps ≡ true → command ≡ arc_value receipt.prepared → receipt.tenant ≡ old.seat.tenant → new.seat.tenant ≡ old.seat.tenant → new.receipts ≡ old.receipts ++ receipt ∷ []
    → BuffersReply a b held (reply_model receipt.reply) (left ++ to_come hand (Some receipt.reply)) r
    → TellsLine keeps old new (Ok command) a b held (left ++ to_come hand (last_reply new.receipts)) r
told_kept keeps old new command receipt a b held left hand r kept is whose same more told =
    let last : last_reply new.receipts ≡ Some receipt.reply = ap last_reply more ∙ last_of_more old.receipts receipt in (
      told_line (reply_model receipt.reply),
      inr (receipt, ap Ok is, whose, refl, same, subst (λ k. new.receipts ≡ (if k then (old.receipts ++ receipt ∷ []) else old.receipts)) (sym kept) more),
      subst (λ o. Buffers a b (held ++ told_line (reply_model receipt.reply)) (left ++ to_come hand o) r) (sym last) told,
    )

-- a call was made of which no receipt is kept
pub told_bare : (keeps : Bool) (old new : Account) (command : Command) (receipt : Receipt) (a b : Option (List ℕ)) (held left : List ℕ) (hand : Option HeldReply) (r : Result (Unit {0}) WriteFault)
    → keeps ≡ false → command ≡ arc_value receipt.prepared → receipt.tenant ≡ old.seat.tenant → new.seat.tenant ≡ old.seat.tenant → new.receipts ≡ old.receipts → old.receipts ≡ []
    → BuffersReply a b held (reply_model receipt.reply) (left ++ to_come hand None) r
    → TellsLine keeps old new (Ok command) a b held (left ++ to_come hand (last_reply new.receipts)) r
told_bare keeps old new command receipt a b held left hand r bare is whose same kept none told =
    let last : last_reply new.receipts ≡ None = ap last_reply (kept ∙ none) in (
      told_line (reply_model receipt.reply),
      inr (receipt, ap Ok is, whose, refl, same, subst (λ k. new.receipts ≡ (if k then (old.receipts ++ receipt ∷ []) else old.receipts)) (sym bare) kept),
      subst (λ o. Buffers a b (held ++ told_line (reply_model receipt.reply)) (left ++ to_come hand o) r) (sym last) told,
    )
