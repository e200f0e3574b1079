use Rattle.sip_machine.proofs.book.Book.message.Goals as goal

-- the bytes that the book keeps are no message
pub returns-in-Err-Fault : goal.returns-in-Err-Fault
returns-in-Err-Fault c = (c.in-Err-Fault.field-0-0, rw (c.in-Err-Fault.field-0-is, c.bytes_of.ensures) at c.in-Err-Fault.ensures)
