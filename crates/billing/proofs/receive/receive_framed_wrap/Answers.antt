-- What the opener promises, and the step of the number that it presents.
use Rattle.billing.proofs.receive.receive_framed_wrap.Goals as goal

pub returns : goal.returns
returns c =
    let opened = c.framed_wrap_open-token.ensures in
    let presented = c.presented_by.ensures in
    record {
      answer = opened.answer;
      buffer = opened.buffer;
      exact = opened.exact;
      billing = rw presented at c.receive.ensures;
    }
