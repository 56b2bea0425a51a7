use Rattle.pay_postings.proofs.posted.Posted.post.Goals as goal

pub push-requires : goal.push-requires
push-requires c = c.in_ok-posting.ensures.read
