use Rattle.std.proofs.Common.{◌≡◌, ℕ, ◌≤◌, List, Contains, ◌⊎◌, inl, inr, length, ap, ◌∙◌, subst, arith, rules}
use Rattle.sot_ports.specs.Faults.{counted}
use Rattle.sot_ports.specs.MemorySink.{SinkState, NextFails}
use Rattle.sot_ports.proofs.memory_sink.MemSinkSink.write.Goals as goal

-- a call whose number is listed, or with no room left, is one that fails
refused : (s : SinkState) (fails : List ℕ) (call room len : ℕ) → fails ≡ s.fails → call ≡ counted s.calls → room ≡ s.room → len ≡ length s.held
    → Contains fails call ⊎ (room ≤ len) → NextFails s
refused s fails call room len fails_is call_is room_is len_is (inl listed) =
    inl (subst (λ (n : ℕ). Contains s.fails n) call_is (subst (λ (l : List ℕ). Contains l call) fails_is listed))
refused s fails call room len fails_is call_is room_is len_is (inr full) = inr (omega arith)

pub returns-then-is_refused-clause-fails : goal.returns-then-is_refused-clause-fails
returns-then-is_refused-clause-fails c =
    let seen = c.self.view_is in (
      λ _. refused c.args.self.now c.deref.result.now c.saturating_add-self-inside.result c.self.inside.room c.len-2.result
          (c.deref.ensures.value ∙ ap (λ (s : SinkState). s.fails) seen)
          (let same = ap (λ (s : SinkState). s.calls) seen in search rules)
          (ap (λ (s : SinkState). s.room) seen)
          (let same = ap (λ (s : SinkState). length s.held) seen in search rules)
          (c.is_refused.ensures.0 (search rules)),
      λ _. search rules,
    )
