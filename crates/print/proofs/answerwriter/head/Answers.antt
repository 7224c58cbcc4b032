-- `print::answerwriter::head` meets its contract. Assumes nothing.
use Rattle.print.proofs.answerwriter.StatementLaws.{sign_head, index_head}
use Rattle.print.proofs.answerwriter.head.Goals as goal

pub returns-in-Sign : goal.returns-in-Sign
returns-in-Sign c = sign_head c.args.bound c.args.at _ _ c.in-Sign.is c.put_bytes-a.ensures c.names-b.ensures c.put_bytes-c.ensures c.tree-p.ensures

pub returns-in-Index : goal.returns-in-Index
returns-in-Index c = index_head c.args.bound c.args.at _ _ c.in-Index.is c.put_bytes-a.ensures c.names-b.ensures c.put_bytes-c-in-Index.ensures c.tree-p-in-Index.ensures c.put_bytes.ensures
