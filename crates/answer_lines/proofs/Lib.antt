-- A law that `put_head`'s proof cites.
mod Head
