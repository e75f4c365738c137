use Rattle.std.proofs.Common.{◌≡◌, ◌+◌, Some, None, refl, ap, sym, ◌∙◌, arith}
use Rattle.fs_types.specs.AnswerList.{answer_at}
use Rattle.fs_report.proofs.TextLemmas.{lines-none, lines-answered, lines-unanswered, lines-all}
use Rattle.fs_report.proofs.answers.append_answers.Goals.{in-Some+in_ok-append_answer_line, in_default}
use Rattle.fs_report.proofs.answers.append_answers.Goals as goal

pub loop-n-init : goal.loop-n-init
loop-n-init c = lines-none c.args.out.now.items c.args.answers.now.list c.lines-n-end.ensures.rising

pub loop-n-preserved : goal.loop-n-preserved
loop-n-preserved c = elim c.match-get.branch [
  | in-Some+in_ok-append_answer_line w ↦
      let found : answer_at c.args.answers.now.list c.loop-n.n ≡ Some w.in-Some.answer.now = sym c.get.ensures.answer ∙ rw w.in-Some.is refl in
      lines-answered c.args.out.now.items c.loop-n.out.items c.match-get.out.items c.args.answers.now.list c.loop-n.n w.in-Some.answer.now c.get.ensures.rising found c.loop-n.invariant (ap (λ o. o.items) w.out-is ∙ w.in_ok-append_answer_line.ensures)
  | in_default w ↦
      let missing : answer_at c.args.answers.now.list c.loop-n.n ≡ None = sym c.get.ensures.answer ∙ rw w.in_default.is refl in
      lines-unanswered c.args.out.now.items c.loop-n.out.items c.match-get.out.items c.args.answers.now.list c.loop-n.n missing c.loop-n.invariant (ap (λ o. o.items) w.out-is)
]

pub returns : goal.returns
returns c = lines-all c.args.out.now.items c.loop-n.out.items c.args.answers.now.list c.loop-n.n c.args.answers.now.lines (omega (arith, c.lines-n-end.ensures.lines)) c.lines-n-end.ensures.within c.loop-n.invariant

pub returns-after-get : goal.returns-after-get
returns-after-get c = lines-all c.args.out.now.items c.match-get.out.items c.args.answers.now.list (c.loop-n.n + 1) c.args.answers.now.lines (omega (arith, c.lines-n-end.ensures.lines)) c.lines-n-end.ensures.within (elim c.match-get.branch [
  | in-Some+in_ok-append_answer_line w ↦
      let found : answer_at c.args.answers.now.list c.loop-n.n ≡ Some w.in-Some.answer.now = sym c.get.ensures.answer ∙ rw w.in-Some.is refl in
      lines-answered c.args.out.now.items c.loop-n.out.items c.match-get.out.items c.args.answers.now.list c.loop-n.n w.in-Some.answer.now c.get.ensures.rising found c.loop-n.invariant (ap (λ o. o.items) w.out-is ∙ w.in_ok-append_answer_line.ensures)
  | in_default w ↦
      let missing : answer_at c.args.answers.now.list c.loop-n.n ≡ None = sym c.get.ensures.answer ∙ rw w.in_default.is refl in
      lines-unanswered c.args.out.now.items c.loop-n.out.items c.match-get.out.items c.args.answers.now.list c.loop-n.n missing c.loop-n.invariant (ap (λ o. o.items) w.out-is)
])
