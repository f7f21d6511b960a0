mod Ones
