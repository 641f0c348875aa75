use Rattle.answer_law.proofs.Verdicts as verdicts
use Rattle.answer_law.proofs.answered.Goals as goal

pub returns : goal.returns
returns c =
    let only = c.grammar.ensures.only in
    record {
      good = λ r request bytes more s e. verdicts.good r request bytes more s (only request r s) e;
      answers = λ r request bytes more s a. verdicts.answers r request bytes more s (only request r s) a;
      status = λ r request bytes status s e. verdicts.status r request bytes status s (only request r s) e;
      ends = λ r request bytes status s e. verdicts.ends r request bytes status s (only request r s) e;
      later = verdicts.later;
      again = verdicts.again;
      refusal = verdicts.refusal;
      waits = verdicts.waits;
      busy = verdicts.busy;
      refused = verdicts.refused;
    }
