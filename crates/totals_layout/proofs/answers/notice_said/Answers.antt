-- `totals_layout::answers::notice_said` meets its contract.
use Rattle.std.proofs.Common.{◌≡◌, sym, ◌∙◌}
use Rattle.totals_layout.specs.NoticeSaid.{begins_with, notice_said}
use Rattle.totals_layout.proofs.BeginsWith.{starts_with-eqb}
use Rattle.totals_layout.proofs.answers.notice_said.Goals as goal

pub returns-then-not-starts_with : goal.returns-then-not-starts_with
unfolding notice_said
returns-then-not-starts_with c =
    let same : begins_with c.args.answer.now c.notice_bytes.result ≡ c.starts_with.result = sym (c.starts_with.ensures.value ∙ starts_with-eqb _ _) in
    rw (← c.likely_notice-notice.ensures, ← c.notice_bytes.ensures, same, c.if-not-starts_with.true)

pub returns : goal.returns
unfolding notice_said
returns c =
    let same : begins_with c.args.answer.now c.notice_bytes.result ≡ c.starts_with.result = sym (c.starts_with.ensures.value ∙ starts_with-eqb _ _) in
    rw (← c.likely_notice-notice.ensures, ← c.notice_bytes.ensures, same, c.if-not-starts_with.false)
