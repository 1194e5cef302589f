-- The laws of the window's code.
mod Numbers
