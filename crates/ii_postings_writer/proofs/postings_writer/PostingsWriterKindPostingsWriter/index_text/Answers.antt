use Rattle.ii_postings_writer.proofs.postings_writer.PostingsWriterKindPostingsWriter.index_text.Goals as goal

pub returns-in-Specialized-clause-tokens : goal.returns-in-Specialized-clause-tokens
returns-in-Specialized-clause-tokens g c = rw c.in-Specialized.is c.index_text.ensures.tokens

pub returns-in-Specialized-clause-refused : goal.returns-in-Specialized-clause-refused
returns-in-Specialized-clause-refused g c = rw c.in-Specialized.is c.index_text.ensures.refused

pub returns-in-Json-clause-tokens : goal.returns-in-Json-clause-tokens
returns-in-Json-clause-tokens g c = rw c.in-Json.is c.index_text-in-Json.ensures.tokens

pub returns-in-Json-clause-refused : goal.returns-in-Json-clause-refused
returns-in-Json-clause-refused g c = rw c.in-Json.is c.index_text-in-Json.ensures.refused
