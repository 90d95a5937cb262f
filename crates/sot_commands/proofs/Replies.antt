-- What a command comes to, step by step: from a text, from a source, from words.
use Rattle.std.proofs.Common.{◌≡◌, ℕ, List, Result, Ok, Err, sym, subst}
use Rattle.std.specs.Prelude.{IfOk}
use Rattle.std.specs.declared.alloc.AllocError.{AllocError}
use Rattle.sot_cli.specs.declared.answer.Answer.{Answer}
use Rattle.sot_commands.specs.declared.reply.Reply.{Reply}
use Rattle.sot_commands.specs.declared.reply.Reply.TheVariants.{Said}
use Rattle.sot_commands.specs.declared.words.Command.{Command}
use Rattle.sot_commands.specs.Words.{Flies}
use Rattle.sot_commands.specs.Answers.{Replies}
use Rattle.sot_commands.specs.Steps.{as_reply, IsReply}

-- what holds of an answer holds of the reply
pub said_result : (P : Reply → Type 0) (Q : Answer → Type 0) (r : Result Reply AllocError) (a : Result Answer AllocError) → r ≡ as_reply a
    → ((x : Answer) → Q x → P (Said x)) → IfOk a Q → IfOk r P
said_result P Q r (Ok x) is so has = subst (λ (s : Result Reply AllocError). IfOk s P) (sym is) (so x has)
said_result P Q r (Err e) is so has = subst (λ (s : Result Reply AllocError). IfOk s P) (sym is) tt

-- a command that does not fly replies with what is said of its text
pub replied : (guests : ℕ) (c : Command) (bytes : List ℕ) (r : Result Reply AllocError) (a : Result Answer AllocError) → r ≡ as_reply a → (¬ (Flies c))
    → IfOk a (λ x. Replies guests c bytes x.status x.text.items) → IfOk r (IsReply guests c bytes)
replied guests c bytes r a is stays has =
    said_result (IsReply guests c bytes) (λ x. Replies guests c bytes x.status x.text.items) r a is (λ x replies. (replies, stays)) has

pub replied_as : (guests : ℕ) (c d : Command) (bytes slice : List ℕ) (r : Result Reply AllocError) (a : Result Answer AllocError) → r ≡ as_reply a → c ≡ d
    → (¬ (Flies d)) → slice ≡ bytes
    → IfOk a (λ x. Replies guests d slice x.status x.text.items) → IfOk r (IsReply guests c bytes)
replied_as guests c d bytes slice r a is same stays here has =
    replied guests c bytes r a is (subst (λ (k : Command). ¬ (Flies k)) (sym same) stays)
    (subst (λ (b : List ℕ). IfOk a (λ x. Replies guests c b x.status x.text.items)) here
    (subst (λ (k : Command). IfOk a (λ x. Replies guests k slice x.status x.text.items)) (sym same) has))
