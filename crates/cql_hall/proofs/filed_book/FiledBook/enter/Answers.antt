use Rattle.std.proofs.Common.{◌≡◌, ℕ, ◌+◌, ◌-◌, Bool, true, false, inl, [], ◌∷◌, ◌++◌, length, take, sym, ap, ◌∙◌, arith}
use Rattle.std.proofs.lemmas.List.{length-append}
use Rattle.std.proofs.Math.Seq.{take-append_seam}
use Rattle.std.specs.Arc.{arc_value}
use Rattle.cql_core.specs.declared.command.Command.{Command}
use Rattle.cql_core.specs.Steps.{stepped_of}
use Rattle.cql_hall.specs.declared.book.Entered.{Entered}
use Rattle.cql_hall.specs.declared.feed.Feed.{Feed}
use Rattle.cql_hall.specs.Change.{is_change}
use Rattle.cql_hall.specs.Entering.{BookModel, Enters}
use Rattle.cql_hall.specs.Filing.{EntersOn}
use Rattle.cql_hall.specs.Queue.{Queued}
use Rattle.cql_hall.proofs.filed_book.FiledBook.enter.Goals as goal

module _ (keeps : Bool) (old new : BookModel) (feed noted : Feed) (tenant : ℕ) (command : Command) (call : Queued) (entered : Entered) (book : Enters keeps old tenant command entered new) (is_on : noted.is_on ≡ feed.is_on) (is : (noted.calls ≡ feed.calls ++ call ∷ []) × (noted.count ≡ feed.count + 1)) where
  -- a call that changed nothing is taken back
  taken : (left : Feed) → is_change (stepped_of entered.step) ≡ false → (left.is_on ≡ noted.is_on) × (left.calls ≡ take (length noted.calls - 1) noted.calls) × (left.count ≡ noted.count - 1) → EntersOn keeps old feed tenant command call entered new left
  taken left unchanged back =
      let size : length (feed.calls ++ call ∷ []) - 1 ≡ length feed.calls = let n = length-append feed.calls (call ∷ []) in omega (arith, n) in
      let calls : left.calls ≡ feed.calls = back.1 ∙ ap (λ l. take (length l - 1) l) is.0 ∙ (ap (λ n. take n (feed.calls ++ call ∷ [])) size ∙ take-append_seam feed.calls (call ∷ [])) in
      let count : left.count ≡ feed.count = omega (arith, back.2, is.1) in
      record {
        book = book;
        queued = λ on. record { is_on = back.0 ∙ is_on; noted = λ yes. let no : false ≡ true = sym unchanged ∙ yes in absurd cc; kept = λ none. (calls, count) };
        bare = λ off. record { is_on = back.0 ∙ is_on; calls = calls; count = count };
      }

  -- one that may have changed the core stays
  stays : is_change (stepped_of entered.step) ≡ true → feed.is_on ≡ true → EntersOn keeps old feed tenant command call entered new noted
  stays changed queues = record {
    book = book;
    queued = λ on. record { is_on = is_on; noted = λ yes. is; kept = λ none. let no : true ≡ false = sym changed ∙ none in absurd cc };
    bare = λ off. let no : true ≡ false = sym queues ∙ off in absurd cc;
  }

pub returns-then-not-is_change : goal.returns-then-not-is_change
returns-then-not-is_change g c =
    inl (taken g.J.Journal.keeps c.args.self.now.book c.enter-entered.new.self c.args.self.now.feed c.note.new.self c.args.tenant (arc_value c.args.prepared.now) (record { tenant = c.args.tenant; line = c.args.line.now }) c.enter-entered.result
    c.enter-entered.ensures c.in-Ok.ensures.is_on c.in-Ok.ensures.ok c.take_back.new.self (sym c.is_change.ensures ∙ c.if-not-is_change.true) c.take_back.ensures)

pub returns-else-not-is_change : goal.returns-else-not-is_change
returns-else-not-is_change g c =
    inl (stays g.J.Journal.keeps c.args.self.now.book c.enter-entered.new.self c.args.self.now.feed c.note.new.self c.args.tenant (arc_value c.args.prepared.now) (record { tenant = c.args.tenant; line = c.args.line.now }) c.enter-entered.result
    c.enter-entered.ensures c.in-Ok.ensures.is_on c.in-Ok.ensures.ok (cc) c.if-not-feed.false)
